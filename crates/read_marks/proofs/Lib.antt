mod Leading
mod Marking
