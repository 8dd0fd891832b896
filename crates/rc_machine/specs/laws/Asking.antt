-- What a command may ask for, over all tables.
use Rattle.std.proofs.Common.{ℕ, ◌*◌, ◌≤◌, Bool, List, length, not, Option, Some, None, refl, arith}
use Rattle.std.specs.List.{list_any}
use Rattle.std.specs.Option.{option_map_or}
use Rattle.std.specs.Ordering.{eq_by_cmp}
use Rattle.std.proofs.lemmas.List.Filters.{length-filter_both}
use Rattle.rc_position.specs.Position.{bytes_cmp}
use Rattle.rc_tfile.specs.declared.info.TableInfo.{TableInfo}
use Rattle.rc_tables.specs.Tables.{listing}
use Rattle.rc_lines.specs.declared.commands.Command.{Command}
use Rattle.rc_lines.specs.declared.commands.Command.TheVariants.{Nothing, SetSchema, Put, OpenRead, Read, Close, Flush, FlushBegin, FlushStep, Evict, Compact, Clean, Stats}
use Rattle.rc_machine.specs.State.{Reader, State, reader_of}
use Rattle.rc_machine.specs.Serving.{most_asks}

-- no more tables list a key than there are
pub listing_few : (key : List ℕ) (infos : List TableInfo) → listing key infos ≤ length infos
listing_few key infos =
    let lists : TableInfo → Bool = λ info. list_any (λ r. eq_by_cmp bytes_cmp key r.key) info.parts in
    let both = length-filter_both lists (λ info. not (lists info)) (λ info. refl) infos in omega (arith, both)

-- so too for the key of a reader, where one is open
few_of : (infos : List TableInfo) (found : Option Reader) → option_map_or (λ (r : Reader). 2 * listing r.key infos) found 0 ≤ 2 * length infos
few_of infos None = omega arith
few_of infos (Some r) = omega (arith, listing_few r.key infos)

-- no command asks for more than two ranges of each table
pub few_asked : (m : State) (command : Command) → most_asks m command ≤ 2 * length m.infos
few_asked m (OpenRead id key slice) = omega (arith, listing_few key m.infos)
few_asked m Nothing = omega arith
few_asked m (SetSchema schema) = omega arith
few_asked m (Put w) = omega arith
few_asked m (Read id count) = few_of m.infos (reader_of id m)
few_asked m (Close id) = omega arith
few_asked m Flush = omega arith
few_asked m FlushBegin = omega arith
few_asked m (FlushStep count) = omega arith
few_asked m (Evict count) = omega arith
few_asked m (Compact count) = omega arith
few_asked m (Clean count) = omega arith
few_asked m Stats = omega arith
