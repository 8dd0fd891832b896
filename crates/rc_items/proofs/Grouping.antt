-- A fragment joins the last of some blocks, or begins one behind it.
use Rattle.std.proofs.Common.{◌≡◌, ◌+◌, true, false, List, [], ◌∷◌, ◌++◌, refl, ap}
use Rattle.std.specs.Prelude.{nat_le}
use Rattle.std.specs.List.{AllByRecursion}
use Rattle.rc_items.specs.declared.blocks.Block.{Block}
use Rattle.rc_items.specs.Blocks.{block_limit, with_fragment}

pub joins_last : (bs : List Block) (b new : Block) → nat_le (b.len + new.len) block_limit ≡ true → with_fragment (bs ++ b ∷ []) new ≡ bs ++ record b { len = b.len + new.len } ∷ []
joins_last [] b new h = rw h refl
joins_last (c ∷ []) b new h = rw h refl
joins_last (c ∷ d ∷ bs) b new h = ap (λ xs. c ∷ xs) (joins_last (d ∷ bs) b new h)

pub begins_behind : (bs : List Block) (b new : Block) → nat_le (b.len + new.len) block_limit ≡ false → with_fragment (bs ++ b ∷ []) new ≡ (bs ++ b ∷ []) ++ new ∷ []
begins_behind [] b new h = rw h refl
begins_behind (c ∷ []) b new h = rw h refl
begins_behind (c ∷ d ∷ bs) b new h = ap (λ xs. c ∷ xs) (begins_behind (d ∷ bs) b new h)

-- what holds of all of some and of one more holds of all of them, and the other way round
pub all_more : {X : Type 0} (P : X → Type 0) (xs : List X) (x : X) → AllByRecursion P xs → P x → AllByRecursion P (xs ++ x ∷ [])
all_more P [] x h p = (p, tt)
all_more P (y ∷ xs) x h p = (h.0, all_more P xs x h.1 p)

pub all_front : {X : Type 0} (P : X → Type 0) (xs : List X) (x : X) → AllByRecursion P (xs ++ x ∷ []) → AllByRecursion P xs × P x
all_front P [] x h = (tt, h.0)
all_front P (y ∷ xs) x h = let r = all_front P xs x h.1 in ((h.0, r.0), r.1)
