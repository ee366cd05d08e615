-- A text stored and put into its record. Definitions only.
use Rattle.std.specs.Prelude.{Ok, Err, ℕ, ◌+◌, List, Bool, Option, Some, None}
use Rattle.read_content.specs.of_refusal.declared.Cause.TheVariants.{TextFull}
use Rattle.read_content.specs.of_tree_put.Put.{put_text}
use Rattle.read_content.specs.Content.{kept}
use Rattle.read_content.specs.declared.Content.{Content as CodedContent}
use Rattle.read_content.specs.inside.Holds.{Performed, in_record, fault_of}

-- a text of n bytes more is stored, the description has so many bytes, and a child's text begins there
abbrev pub stored_in : (n description child : ℕ) → CodedContent → CodedContent
stored_in n description child c =
    record {
      used = c.used;
      fill = c.fill + n;
      description = description;
      gathered = 0;
      child = child;
      report_at = c.report_at;
      suite_list = c.suite_list;
      case_list = c.case_list;
      free = c.free;
    }

abbrev pub stored_end : ℕ → Option ℕ → ℕ
stored_end fill (Some n) = fill + n
stored_end fill None = fill

-- the records then: a text that is stored from `start` on is put into record i at word o with bit k, if it is taken
abbrev pub kept_words : Option ℕ → Bool → ℕ → ℕ → ℕ → ℕ → List ℕ → List ℕ
kept_words (Some n) taken i o k start words = in_record i (kept taken (put_text o k start n)) words
kept_words None taken i o k start words = words

abbrev pub kept_to : Option ℕ → (description child : ℕ) → CodedContent → Performed
kept_to (Some n) description child c = Ok (stored_in n description child c)
kept_to None description child c = Err (fault_of TextFull)
