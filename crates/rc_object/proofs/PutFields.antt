-- The fields of an entry's marks, or of a version's head, are put one after the other: each holds its number, and what lies beside them stays.
use Rattle.std.proofs.Common.{◌≡◌, ℕ, ◌+◌, inl, inr, List, drop, ap, sym, ◌∙◌, arith}
use Rattle.std.proofs.lemmas.List.{drop-drop}
use Rattle.lsa_kinds.specs.Fields.{number_at, IsPut}
use Rattle.rc_core.specs.declared.entries.Mark.{Mark}
use Rattle.rc_object.specs.Objects.{SpellsMarks}

-- these numbers stand in the fields of the marks
pub record HasMarks (old new : List ℕ) (flags deletion timestamp gap_timestamp gap_deletion : ℕ) : Type 0 where
  pub flags_is : number_at 0 1 new ≡ flags
  pub deletion_is : number_at 4 4 new ≡ deletion
  pub timestamp_is : number_at 8 8 new ≡ timestamp
  pub gap_timestamp_is : number_at 16 8 new ≡ gap_timestamp
  pub gap_deletion_is : number_at 24 4 new ≡ gap_deletion
  pub level : number_at 1 1 new ≡ number_at 1 1 old
  pub rest : drop 28 new ≡ drop 28 old

pub drop_on : (more offset : ℕ) (old new : List ℕ) → drop offset new ≡ drop offset old → drop (offset + more) new ≡ drop (offset + more) old
drop_on more offset old new same = sym (drop-drop more offset new) ∙ ap (drop more) same ∙ drop-drop more offset old

pub marks_put : (a b c d e f : List ℕ) (flags deletion timestamp gap_timestamp gap_deletion : ℕ)
    → IsPut a b 0 1 flags → IsPut b c 4 4 deletion → IsPut c d 8 8 timestamp → IsPut d e 16 8 gap_timestamp → IsPut e f 24 4 gap_deletion
    → HasMarks a f flags deletion timestamp gap_timestamp gap_deletion
marks_put a b c d e f flags deletion timestamp gap_timestamp gap_deletion one two three four five = record {
  flags_is = five.others 0 1 (inl (omega arith)) ∙ four.others 0 1 (inl (omega arith)) ∙ three.others 0 1 (inl (omega arith)) ∙ two.others 0 1 (inl (omega arith)) ∙ one.written;
  deletion_is = five.others 4 4 (inl (omega arith)) ∙ four.others 4 4 (inl (omega arith)) ∙ three.others 4 4 (inl (omega arith)) ∙ two.written;
  timestamp_is = five.others 8 8 (inl (omega arith)) ∙ four.others 8 8 (inl (omega arith)) ∙ three.written;
  gap_timestamp_is = five.others 16 8 (inl (omega arith)) ∙ four.written;
  gap_deletion_is = five.written;
  level = five.others 1 1 (inl (omega arith)) ∙ four.others 1 1 (inl (omega arith)) ∙ three.others 1 1 (inl (omega arith)) ∙ two.others 1 1 (inl (omega arith)) ∙ one.others 1 1 (inr (omega arith));
  rest = five.behind ∙ drop_on 4 24 d e four.behind ∙ drop_on 12 16 c d three.behind ∙ drop_on 20 8 b c two.behind ∙ drop_on 27 1 a b one.behind;
}

-- these numbers stand in the fields of a head
pub record HasHead (old new : List ℕ) (flags deletion timestamp phase : ℕ) : Type 0 where
  pub flags_is : number_at 0 1 new ≡ flags
  pub deletion_is : number_at 4 4 new ≡ deletion
  pub timestamp_is : number_at 8 8 new ≡ timestamp
  pub phase_is : number_at 16 8 new ≡ phase
  pub level : number_at 1 1 new ≡ number_at 1 1 old

pub head_put : (a b c d e : List ℕ) (flags deletion timestamp phase : ℕ)
    → IsPut a b 0 1 flags → IsPut b c 4 4 deletion → IsPut c d 8 8 timestamp → IsPut d e 16 8 phase → HasHead a e flags deletion timestamp phase
head_put a b c d e flags deletion timestamp phase one two three four = record {
  flags_is = four.others 0 1 (inl (omega arith)) ∙ three.others 0 1 (inl (omega arith)) ∙ two.others 0 1 (inl (omega arith)) ∙ one.written;
  deletion_is = four.others 4 4 (inl (omega arith)) ∙ three.others 4 4 (inl (omega arith)) ∙ two.written;
  timestamp_is = four.others 8 8 (inl (omega arith)) ∙ three.written;
  phase_is = four.written;
  level = four.others 1 1 (inl (omega arith)) ∙ three.others 1 1 (inl (omega arith)) ∙ two.others 1 1 (inl (omega arith)) ∙ one.others 1 1 (inr (omega arith));
}

-- marks stay where the length of the position is put
pub marks_stay : (old new : List ℕ) (at gap : Mark) (n : ℕ) → SpellsMarks old at gap → IsPut old new 28 4 n → SpellsMarks new at gap
marks_stay old new at gap n w put = record {
  flags = put.others 0 1 (inl (omega arith)) ∙ w.flags;
  deletion_at = put.others 4 4 (inl (omega arith)) ∙ w.deletion_at;
  timestamp_at = put.others 8 8 (inl (omega arith)) ∙ w.timestamp_at;
  timestamp_gap = put.others 16 8 (inl (omega arith)) ∙ w.timestamp_gap;
  deletion_gap = put.others 24 4 (inl (omega arith)) ∙ w.deletion_gap;
  tomb_at = w.tomb_at;
  tomb_gap = w.tomb_gap;
}
