-- What is ahead at the start decides which head the file has.
use Rattle.std.proofs.Common.{List, ℕ, [], Some, None, subst, refl}
use Rattle.rc_items.specs.Items.{HeadItem, item_code, IsItem}
use Rattle.rc_items.specs.Reading.{Starts}
use Rattle.rc_tfile.proofs.Ahead.{head_found, no_head}
use Rattle.rc_tfile.proofs.checking.head_of.Goals as goal

pub returns-in-Ok-None-clause-head : goal.returns-in-Ok-None-clause-head
returns-in-Ok-None-clause-head g c = λ content is.
    let at = c.in_ok-refill.ensures.told [] c.requires.start content is in
    let none = rw c.in-Ok-None.field-0-is at c.in-Ok-None.ensures.value in
    (refl, no_head content c.refill.new.self at c.in_ok-refill.ensures.full (subst (λ (b : List ℕ). Starts (λ y. item_code (HeadItem y)) (λ y. IsItem (HeadItem y)) b None) c.ahead.ensures.value none))

pub returns-in-Ok-Some-clause-ahead : goal.returns-in-Ok-Some-clause-ahead
returns-in-Ok-Some-clause-ahead g c =
    let found = rw c.in-Ok-Some.field-0-is at c.in-Ok-Some.ensures.value in
    subst (λ (b : List ℕ). Starts (λ y. item_code (HeadItem y)) (λ y. IsItem (HeadItem y)) b (Some (c.in-Ok-Some.found.0, c.in-Ok-Some.found.1))) c.ahead.ensures.value found

pub returns-in-Ok-Some-clause-head : goal.returns-in-Ok-Some-clause-head
returns-in-Ok-Some-clause-head g c = λ content is.
    let at = c.in_ok-refill.ensures.told [] c.requires.start content is in
    let found = rw c.in-Ok-Some.field-0-is at c.in-Ok-Some.ensures.value in
    (head_found content c.refill.new.self c.in-Ok-Some.found.0 c.in-Ok-Some.found.1 at (subst (λ (b : List ℕ). Starts (λ y. item_code (HeadItem y)) (λ y. IsItem (HeadItem y)) b (Some (c.in-Ok-Some.found.0, c.in-Ok-Some.found.1))) c.ahead.ensures.value found), found.2)
