use Rattle.std.proofs.Common.{is_some, Some, sym, ap, ◌∙◌, arith}
use Rattle.lsa_list.specs.calls.Recency.{object_of}
use Rattle.rc_version.specs.Versions.{tree_of}
use Rattle.rc_partition.proofs.Passing.{same_ref_of}
use Rattle.rc_partition.proofs.walks.owner_of_entry.Goals as goal

pub top_of-requires : goal.top_of-requires
top_of-requires g c = let s = c.requires.0 in (omega arith, (tree_of s.object, s.entries, c.requires.1.tree, c.requires.2))

pub object-requires : goal.object-requires
object-requires g c = let s = c.requires.0 in ap (λ e. is_some (object_of (Some e))) (c.top_of.ensures (tree_of s.object) s.entries c.requires.1.tree c.requires.2)

pub returns : goal.returns
returns g c = λ s h on. same_ref_of c.object.result s.object (sym c.object.ensures ∙ ap (λ e. object_of (Some e)) (c.top_of.ensures (tree_of s.object) s.entries h.tree on))
