-- What is left to an open reader after a page.
use Rattle.std.proofs.Common.{◌≡◌, ℕ, List, ◌++◌, Some, take, drop, sym, ap, subst, ◌∙◌}
use Rattle.rc_mutation.specs.declared.mutations.Mutation.{Mutation}
use Rattle.rc_query.specs.declared.lines.OutLine.{OutLine}
use Rattle.rc_memory.specs.Memory.{Memory}
use Rattle.rc_paging.specs.declared.layers.HeldSnaps.{HeldSnaps}
use Rattle.rc_paging.specs.declared.pages.OpenReader.{OpenReader}
use Rattle.rc_paging.specs.declared.remainders.Remainder.{Remainder}
use Rattle.rc_paging.specs.Pages.{LinesAreLeft, StandFor}
use Rattle.rc_paging.specs.calls.Remainders.{after_lines}
use Rattle.rc_paging.proofs.Behind.{left_behind_lines, parted}

-- the same lines, where what is left of the slice is as it was
pub same_left : (S : ℕ) (m n : Memory) (o : OpenReader) (held : HeldSnaps) (remainder : Remainder) (below : List Mutation) (lines : List OutLine) (l : LinesAreLeft S m o below lines) → StandFor S n held below l.writes l.later → remainder ≡ o.remainder → LinesAreLeft S n (record { held = held; remainder = remainder; behind = o.behind }) below lines
same_left S m n o held remainder below lines l stand e = subst (λ r. LinesAreLeft S n (record { held = held; remainder = r; behind = o.behind }) below lines) (sym e) (record {
  schema = l.schema;
  writes = l.writes;
  later = l.later;
  of_tables = l.of_tables;
  of_sealed = l.of_sealed;
  of_active = l.of_active;
  stand = stand;
  placed = l.placed;
  are = l.are;
  told = l.told;
})

-- the lines behind those that were given
pub go_on : (S : ℕ) (m n : Memory) (o : OpenReader) (held : HeldSnaps) (remainder : Remainder) (below : List Mutation) (lines gave kept : List OutLine) (count : ℕ) (l : LinesAreLeft S m o below lines) → StandFor S n held below l.writes l.later → remainder ≡ after_lines gave o.remainder → gave ≡ take count lines → kept ≡ take 1 (drop count lines) → LinesAreLeft S n (record { held = held; remainder = remainder; behind = Some kept }) below (drop count lines)
go_on S m n o held remainder below lines gave kept count l stand e g k =
    let b = left_behind_lines (below ++ (l.writes ++ l.later)) o.remainder gave (drop count lines) l.placed (sym l.are ∙ parted count lines ∙ ap (λ x. x ++ drop count lines) (sym g)) in
    subst (λ r. LinesAreLeft S n (record { held = held; remainder = r; behind = Some kept }) below (drop count lines)) (sym e) (record {
      schema = l.schema;
      writes = l.writes;
      later = l.later;
      of_tables = l.of_tables;
      of_sealed = l.of_sealed;
      of_active = l.of_active;
      stand = stand;
      placed = b.placed;
      are = sym b.are;
      told = k;
    })
