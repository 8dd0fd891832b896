-- The order of the rows and bounds of one partition.
--     comp_cmp             components: an int is less than a text; ints by number, texts by bytes
--     pos_cmp              positions: component by component; where one prefix is a proper prefix of the other, the weight of the shorter decides
--     key_cmp              full keys, by the positions of their rows
--     place_cmp            all places of a partition: its head, its static row, the clustered positions, its end
--     IsBefore, covers     strictly before; whether a range covers a position
--     start_bound, end_bound       the bound of a range at a prefix, inclusive or not
--     IsBeforeRows, IsAfterRows    before, or after, each row whose key begins with a prefix
--     IsPosOf                      a position of rows with so many components
--     longest_partition_key, longest_text     how many bytes a partition key has at most, and a text of a clustering key
use Rattle.std.specs.Prelude.{◌≡◌, ℕ, Bool, true, false, ◌&&◌, List, [], ◌∷◌, ◌++◌, length, ◌≤◌}
use Rattle.std.specs.declared.cmp.Ordering.{Ordering}
use Rattle.std.specs.declared.cmp.Ordering.TheVariants.{Less, Equal, Greater}
use Rattle.std.specs.Ordering.{ordering_reverse, ordering_then, nat_cmp, int_cmp, is_le, is_lt}
use Rattle.std.specs.Cmp.Lexicographic.{slice_cmp}
use Rattle.rc_position.specs.declared.comps.Comp.{Comp}
use Rattle.rc_position.specs.declared.comps.Comp.TheVariants.{Int, Text}
use Rattle.rc_position.specs.declared.positions.Weight.{Weight}
use Rattle.rc_position.specs.declared.positions.Weight.TheVariants.{Before, At, After}
use Rattle.rc_position.specs.declared.positions.Pos.{Pos}

-- a partition key has at most so many bytes, and at least one
abbrev pub longest_partition_key : ℕ
longest_partition_key = 64

-- a partition key
abbrev pub IsPartKey : List ℕ → Type 0
IsPartKey key = (1 ≤ length key) × (length key ≤ longest_partition_key)

-- a text of a clustering key has at most so many bytes where it is written or stored
abbrev pub longest_text : ℕ
longest_text = 64

-- unsigned byte order; a proper prefix is smaller
abbrev pub bytes_cmp : List ℕ → List ℕ → Ordering
bytes_cmp = slice_cmp nat_cmp

-- the order of components: numbers by value, before texts by bytes
abbrev pub comp_cmp : Comp → Comp → Ordering
comp_cmp (Int a) (Int b) = int_cmp a b
comp_cmp (Int a) (Text b) = Less
comp_cmp (Text a) (Int b) = Greater
comp_cmp (Text a) (Text b) = bytes_cmp a b

-- the number of a weight: before, at, after
abbrev pub weight_number : Weight → ℕ
weight_number Before = 0
weight_number At = 1
weight_number After = 2

-- the order of weights, by their numbers
abbrev pub weight_cmp : Weight → Weight → Ordering
weight_cmp v w = nat_cmp (weight_number v) (weight_number w)

-- a position against every longer one that begins with its prefix: Before and At stand before them, After behind them
abbrev pub shorter_cmp : Weight → Ordering
shorter_cmp Before = Less
shorter_cmp At = Less
shorter_cmp After = Greater

-- the order of positions, by their prefixes and weights
abbrev pub prefix_cmp : List Comp → Weight → List Comp → Weight → Ordering
prefix_cmp [] v [] w = weight_cmp v w
prefix_cmp [] v (d ∷ ds) w = shorter_cmp v
prefix_cmp (c ∷ cs) v [] w = ordering_reverse (shorter_cmp w)
prefix_cmp (c ∷ cs) v (d ∷ ds) w = ordering_then (comp_cmp c d) (prefix_cmp cs v ds w)

-- the order of positions
unfoldable pub pos_cmp : Pos → Pos → Ordering
pos_cmp x y = prefix_cmp x.prefix x.weight y.prefix y.weight

-- where the row of a full key stands
abbrev pub row_pos : List Comp → Pos
row_pos k = record { prefix = k; weight = At }

-- the order of clustering keys: that of their rows' positions
abbrev pub key_cmp : List Comp → List Comp → Ordering
key_cmp k l = pos_cmp (row_pos k) (row_pos l)

-- x comes before y
abbrev pub IsBefore : Pos → Pos → Type 0
IsBefore x y = pos_cmp x y ≡ Less

-- whether the range from `from` to `to` covers x: it begins at or before x and ends after it
abbrev pub covers : Pos → Pos → Pos → Bool
covers from to x = is_le (pos_cmp from x) && is_lt (pos_cmp x to)

-- where a range begins that begins at a prefix: with the keys that have the prefix, or after them
abbrev pub start_bound : List Comp → Bool → Pos
start_bound p true = record { prefix = p; weight = Before }
start_bound p false = record { prefix = p; weight = After }

-- where a range ends that ends at a prefix: with the keys that have the prefix, or before them
abbrev pub end_bound : List Comp → Bool → Pos
end_bound p true = record { prefix = p; weight = After }
end_bound p false = record { prefix = p; weight = Before }

-- x stands before, or after, each row whose key begins with p
abbrev pub IsBeforeRows : List Comp → Pos → Type 0
IsBeforeRows p x = (rest : List Comp) → IsBefore x (row_pos (p ++ rest))

-- x comes after each row whose key begins with p
abbrev pub IsAfterRows : List Comp → Pos → Type 0
IsAfterRows p x = (rest : List Comp) → IsBefore (row_pos (p ++ rest)) x

-- x is a position of rows with n components: its prefix has no more, and all n where it is at a row
abbrev pub IsPosOf : ℕ → Pos → Type 0
IsPosOf n x = (length x.prefix ≤ n) × (x.weight ≡ At → length x.prefix ≡ n)

-- what a partition has, in the order in which it is read
pub data Place : Type 0 where
  Head : Place
  Static : Place
  Clustered : Pos → Place
  End : Place

-- the order of places: head, static row, the clustered positions, end
abbrev pub place_cmp : Place → Place → Ordering
place_cmp Head Head = Equal
place_cmp Head Static = Less
place_cmp Head (Clustered y) = Less
place_cmp Head End = Less
place_cmp Static Head = Greater
place_cmp Static Static = Equal
place_cmp Static (Clustered y) = Less
place_cmp Static End = Less
place_cmp (Clustered x) Head = Greater
place_cmp (Clustered x) Static = Greater
place_cmp (Clustered x) (Clustered y) = pos_cmp x y
place_cmp (Clustered x) End = Less
place_cmp End Head = Greater
place_cmp End Static = Greater
place_cmp End (Clustered y) = Greater
place_cmp End End = Equal
