-- Right behind the position of a key the same range tombstones are in force as at it: none begins or ends just there.
use Rattle.std.proofs.Common.{◌≡◌, ◌+◌, ◌≤◌, ℕ, suc, true, false, not, ◌&&◌, cond, List, [], ◌∷◌, ◌++◌, map, filter, refl, sym, ap, ◌∙◌, arith}
use Rattle.std.specs.Prelude.{pos, negsuc, nat_lt, int_lt}
use Rattle.std.proofs.lemmas.Bool.Decides.{nat_tests}
use Rattle.std.specs.declared.cmp.Ordering.TheVariants.{Less, Equal, Greater}
use Rattle.std.specs.Ordering.{is_lt, ordering_then}
use Rattle.std.specs.Cmp.{tied_itself}
use Rattle.rc_cell.specs.Orders.{tomb_cmp}
use Rattle.rc_cell.specs.Winner.{greatest}
use Rattle.rc_position.specs.declared.comps.Comp.{Comp}
use Rattle.rc_position.specs.declared.comps.Comp.TheVariants.{Int, Text}
use Rattle.rc_position.specs.declared.positions.Pos.{Pos}
use Rattle.rc_position.specs.declared.positions.Weight.{Weight}
use Rattle.rc_position.specs.declared.positions.Weight.TheVariants.{Before, At, After}
use Rattle.rc_position.specs.Position.{IsBefore, comp_cmp, covers, pos_cmp, prefix_cmp, row_pos}
use Rattle.rc_position.specs.laws.Orders.{comp_cmp_total}
use Rattle.rc_ranges.specs.declared.pieces.Piece.{Piece}
use Rattle.rc_ranges.specs.Cover.{cover as range_tomb, tombs_over}
use Rattle.rc_ranges.specs.calls.Sweep.{lt}
use Rattle.rc_ranges.specs.laws.Order.{covers-lt}

-- how far below zero the number of a component is
abbrev depth_of : Comp → ℕ
depth_of (Int (pos n)) = 0
depth_of (Int (negsuc n)) = suc n
depth_of (Text bytes) = 0

-- the same of a prefix's components together
abbrev pub depth : List Comp → ℕ
depth [] = 0
depth (c ∷ cs) = depth_of c + depth cs

-- a position right behind that of a key, before each other of no more depth
abbrev pub right_behind : List Comp → ℕ → Pos
right_behind key n = record { prefix = key ++ Int (negsuc n) ∷ []; weight = Before }

deeper : (n : ℕ) (c : Comp) → depth_of c ≤ n → comp_cmp (Int (negsuc n)) c ≡ Less
deeper n (Text bytes) h = refl
deeper n (Int (pos m)) h = refl
deeper n (Int (negsuc m)) h =
    let less : nat_lt m n ≡ true = grind (arith, nat_tests, h) in
    ap (λ b. cond b Less (cond (int_lt (negsuc m) (negsuc n)) Greater Equal)) less

near : (key : List Comp) (n : ℕ) (ds : List Comp) (w : Weight) → depth ds ≤ n → is_lt (prefix_cmp (key ++ Int (negsuc n) ∷ []) Before ds w) ≡ is_lt (prefix_cmp key At ds w)
near [] n [] Before h = refl
near [] n [] At h = refl
near [] n [] After h = refl
near [] n (d ∷ ds) w h = ap (λ o. is_lt (ordering_then o (prefix_cmp [] Before ds w))) (deeper n d (omega (arith, h)))
near (c ∷ cs) n [] w h = refl
near (c ∷ cs) n (d ∷ ds) w h = elim (comp_cmp c d) as (λ o. is_lt (ordering_then o (prefix_cmp (cs ++ Int (negsuc n) ∷ []) Before ds w)) ≡ is_lt (ordering_then o (prefix_cmp cs At ds w))) [
  | Less ↦ refl
  | Equal ↦ near cs n ds w (omega (arith, h))
  | Greater ↦ refl
]

-- no position of no more depth stands between the two
pub lt-near : (key : List Comp) (n : ℕ) (b : Pos) → depth b.prefix ≤ n → lt (right_behind key n) b ≡ lt (row_pos key) b
unfolding lt pos_cmp
lt-near key n b h = near key n b.prefix b.weight h

behind : (key : List Comp) (n : ℕ) → prefix_cmp key At (key ++ Int (negsuc n) ∷ []) Before ≡ Less
behind [] n = refl
behind (c ∷ cs) n = ap (λ o. ordering_then o (prefix_cmp cs At (cs ++ Int (negsuc n) ∷ []) Before)) (tied_itself comp_cmp_total c) ∙ behind cs n

pub row-before : (key : List Comp) (n : ℕ) → IsBefore (row_pos key) (right_behind key n)
unfolding pos_cmp
row-before key n = behind key n

within : (key : List Comp) (n : ℕ) → prefix_cmp (key ++ Int (negsuc n) ∷ []) Before key After ≡ Less
within [] n = refl
within (c ∷ cs) n = ap (λ o. ordering_then o (prefix_cmp (cs ++ Int (negsuc n) ∷ []) Before cs After)) (tied_itself comp_cmp_total c) ∙ within cs n

pub before-after : (key : List Comp) (n : ℕ) → IsBefore (right_behind key n) (record { prefix = key; weight = After })
unfolding pos_cmp
before-after key n = within key n

-- the depths of the bounds of pieces
abbrev pub depths : List Piece → ℕ
depths [] = 0
depths (p ∷ ps) = depth p.from.prefix + (depth p.to.prefix + depths ps)

over-near : (key : List Comp) (n : ℕ) (ps : List Piece) → depths ps ≤ n → tombs_over ps (right_behind key n) ≡ tombs_over ps (row_pos key)
over-near key n [] h = refl
over-near key n (p ∷ ps) h =
    ap (λ b. map (λ (q : Piece). q.tomb) (cond b (p ∷ filter (λ (q : Piece). covers q.from q.to (right_behind key n)) ps) (filter (λ (q : Piece). covers q.from q.to (right_behind key n)) ps))) same
    ∙ elim (covers p.from p.to (row_pos key)) as (λ b. map (λ (q : Piece). q.tomb) (cond b (p ∷ filter (λ (q : Piece). covers q.from q.to (right_behind key n)) ps) (filter (λ (q : Piece). covers q.from q.to (right_behind key n)) ps)) ≡ map (λ (q : Piece). q.tomb) (cond b (p ∷ filter (λ (q : Piece). covers q.from q.to (row_pos key)) ps) (filter (λ (q : Piece). covers q.from q.to (row_pos key)) ps))) [
      | true ↦ ap (λ ts. p.tomb ∷ ts) (over-near key n ps (omega (arith, h)))
      | false ↦ over-near key n ps (omega (arith, h))
    ]
  where
    same : covers p.from p.to (right_behind key n) ≡ covers p.from p.to (row_pos key)
    same =
        covers-lt p.from p.to (right_behind key n)
        ∙ (λ i. not (lt-near key n p.from (omega (arith, h)) i) && lt-near key n p.to (omega (arith, h)) i)
        ∙ sym (covers-lt p.from p.to (row_pos key))

pub cover-near : (key : List Comp) (n : ℕ) (ps : List Piece) → depths ps ≤ n → range_tomb ps (right_behind key n) ≡ range_tomb ps (row_pos key)
unfolding range_tomb
cover-near key n ps h = ap (greatest tomb_cmp) (over-near key n ps h)
