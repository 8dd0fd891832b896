-- The set is made of the texts.
use Rattle.std.specs.BTreeSet.{IsFromIterResult}
use Rattle.std.proofs.lemmas.Iterator.{YieldsList-from_slice}
use Rattle.std.proofs.lemmas.Iterator.Adapters.{fact_from_collect}
use Rattle.std.proofs.lemmas.Iterator.Consumers.{YieldsList-from_copied}
use Rattle.rc_lines.proofs.Distinct.{cmp}
use Rattle.rc_lines.proofs.cells.text_set.Goals as goal

pub returns : goal.returns
returns c = fact_from_collect (IsFromIterResult cmp) c.collect.result c.collect.ensures.ran (YieldsList-from_copied (YieldsList-from_slice c.args.texts.now cc))
