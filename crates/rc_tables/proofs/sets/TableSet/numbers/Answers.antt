-- At first all tables are left.
use Rattle.std.proofs.Common.{◌++◌, ◌∙◌, ap, map as list_map}
use Rattle.rc_tables.proofs.sets.TableSet.numbers.Goals as goal

pub loop-left-init : goal.loop-left-init
loop-left-init c = ap (λ ns. ns ++ list_map (λ t. t.number) (list_map (λ t. t.value) c.tables-left.result.now)) c.new-numbers.ensures.items ∙ ap (list_map (λ t. t.number)) c.tables-left.ensures
