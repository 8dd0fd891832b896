-- The sweep that joins two lists of pieces: a mark goes from bound to bound, and what stands before it is done.
use Rattle.std.specs.Prelude.{ℕ, ◌+◌, ◌*◌, Bool, ◌&&◌, List, [], ◌∷◌, Option, Some, None, cond, length}
use Rattle.std.specs.Ordering.{is_lt, is_eq}
use Rattle.rc_position.specs.declared.positions.Pos.{Pos}
use Rattle.rc_position.specs.Position.{pos_cmp}
use Rattle.rc_cell.specs.declared.writes.Tomb.{Tomb}
use Rattle.rc_cell.specs.Orders.{tomb_cmp}
use Rattle.rc_ranges.specs.declared.pieces.Piece.{Piece}

-- x stands before y
unfoldable pub lt : Pos → Pos → Bool
lt x y = is_lt (pos_cmp x y)

-- the tombstone from the mark up to the next bound: that of the first piece, if it has begun
abbrev pub sweep_tomb : List Piece → Pos → Option Tomb
sweep_tomb [] mark = None
sweep_tomb (p ∷ ps) mark = cond (lt mark p.from) None (Some p.tomb)

-- the next bound behind the mark: where the first piece begins, or ends if it has begun
abbrev pub next_bound : List Piece → Pos → Option Pos
next_bound [] mark = None
next_bound (p ∷ ps) mark = Some (cond (lt mark p.from) p.from p.to)

-- the pieces without the first, if that ends at the mark or before
abbrev pub rest_from : List Piece → Pos → List Piece
rest_from [] mark = []
rest_from (p ∷ ps) mark = cond (lt mark p.to) (p ∷ ps) ps

-- the earlier of two bounds, where there are any
abbrev pub earlier : Option Pos → Option Pos → Option Pos
earlier None y = y
earlier (Some x) None = Some x
earlier (Some x) (Some y) = Some (cond (lt y x) y x)

-- how many bounds stand behind the mark
abbrev pub bounds_left : List Piece → Pos → ℕ
bounds_left [] mark = 0
bounds_left (p ∷ ps) mark = cond (lt mark p.from) 2 1 + 2 * length ps

-- whether the second piece goes on where the first ends, with the same tombstone
abbrev pub goes_on : Piece → Piece → Bool
goes_on p q = is_eq (tomb_cmp p.tomb q.tomb) && is_eq (pos_cmp p.to q.from)

-- the pieces with one more behind them: the last is made longer if the new one goes on from it
abbrev pub extended_pieces : List Piece → Piece → List Piece
extended_pieces [] q = q ∷ []
extended_pieces (p ∷ []) q = cond (goes_on p q) (record p { to = q.to } ∷ []) (p ∷ q ∷ [])
extended_pieces (p ∷ r ∷ ps) q = p ∷ extended_pieces (r ∷ ps) q

-- the same with a tombstone from one position to another, if there is one
abbrev pub extended_by : List Piece → Pos → Pos → Option Tomb → List Piece
extended_by pieces from to None = pieces
extended_by pieces from to (Some tomb) = extended_pieces pieces (record { from = from; to = to; tomb = tomb })
