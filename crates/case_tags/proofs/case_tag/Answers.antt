use Prim.Native.Nat.{◌≤◌, ◌<◌}
use native.Mathlib.Omega.{arith}
use Rattle.case_tags.proofs.Counting.{no-opening, is-case, no-case}
use Rattle.case_tags.proofs.case_tag.Goals as goal

pub returns-then-kind_at-gt-EMPTY : goal.returns-then-kind_at-gt-EMPTY
returns-then-kind_at-gt-EMPTY c =
    let kind-at = c.kind_at in
    let high : 1 < kind-at.result = let l = c.if-kind_at-gt-EMPTY.true in omega arith in
    no-opening _ _ _ c.requires _ kind-at.ensures high

pub returns-then-tag_of-eq-TESTCASE : goal.returns-then-tag_of-eq-TESTCASE
returns-then-tag_of-eq-TESTCASE c =
    let start = c in
    let kind-at = c.kind_at in
    let low : kind-at.result ≤ 1 = let l = c.if-kind_at-gt-EMPTY.false in omega arith in
    is-case _ _ _ start.requires _ kind-at.ensures low _ c.bytes_at.ensures _ c.tag_of.ensures c.if-tag_of-eq-TESTCASE.true

pub returns : goal.returns
returns c =
    let start = c in
    let kind-at = c.kind_at in
    let low : kind-at.result ≤ 1 = let l = c.if-kind_at-gt-EMPTY.false in omega arith in
    no-case _ _ _ start.requires _ kind-at.ensures low _ c.bytes_at.ensures _ c.tag_of.ensures c.if-tag_of-eq-TESTCASE.false
