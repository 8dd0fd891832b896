use Rattle.std.proofs.Common.{◌≡◌, [], ◌∷◌, drop, inl, ap, ◌∙◌, sym, arith}
use Rattle.std.proofs.lemmas.List.{drop-drop}
use Rattle.rc_object.proofs.PutFields.{marks_stay}
use Rattle.rc_object.proofs.makers.end_bytes.Goals as goal

pub returns : goal.returns
returns c =
    let m = c.args.mark in let before = c.put_marks.new.bytes in
    let rest : drop 28 before ≡ 0 ∷ 0 ∷ 0 ∷ 0 ∷ 2 ∷ 0 ∷ [] = c.put_marks.ensures.rest in record {
      marks = marks_stay before c.put.new.bytes m m 2 c.put_marks.ensures.marks c.put.ensures.put;
      level = c.put.ensures.put.others 1 1 (inl (omega arith)) ∙ c.put_marks.ensures.level;
      size = c.put.ensures.put.written;
      codes = c.put.ensures.put.behind ∙ sym (drop-drop 4 28 before) ∙ ap (drop 4) rest;
      position = (omega arith, tt);
      long = omega arith;
    }
