use Rattle.std.proofs.Common.{is_some, inl, inr, ap, arith}
use Rattle.lsa_path.specs.laws.Renamed.{some-there}
use Rattle.lsa_region.specs.Region.{body}
use Rattle.lsa_tree.specs.laws.Trees.{no_entry_at}
use Rattle.rc_version.specs.laws.Objects.{holds-kind, holds-stands, static-no_version}
use Rattle.rc_memory.specs.Apart.{entry_apart}
use Rattle.rc_recency.proofs.Likes.{entry-kind, no-static, stands-like}
use Rattle.rc_recency.proofs.joining.found_like.Goals as goal

pub kind-requires : goal.kind-requires
kind-requires g c = (omega arith, elim c.requires.there [ inl a ↦ some-there _ (body c.args.region.now c.args.e) a.1 | inr a ↦ ap is_some a.1.0 ])

pub entry_like-requires : goal.entry_like-requires
entry_like-requires g c = (omega arith, (c.requires.version, stands-like c.args.region.now c.args.e (entry-kind (body c.args.region.now c.args.e) (inl c.in-RowEntry.ensures)) c.requires.there))

pub entry_like-requires-in-Dummy : goal.entry_like-requires-in-Dummy
entry_like-requires-in-Dummy g c = (omega arith, (c.requires.version, stands-like c.args.region.now c.args.e (entry-kind (body c.args.region.now c.args.e) (inr c.in-Dummy.ensures)) c.requires.there))

pub static_row-requires : goal.static_row-requires
static_row-requires g c = (omega arith, c.requires.version)

pub unreachable-requires : goal.unreachable-requires
unreachable-requires g c = elim c.requires.there [
  | inl a ↦ no_entry_at (body c.args.region.now c.args.e) c.in-Version.ensures (holds-kind c.args.region.now c.args.e a.0 a.1)
  | inr a ↦ static-no_version c.args.region.now c.args.e a.0 a.1 c.in-Version.ensures
]

pub returns-in-RowEntry-clause-entry : goal.returns-in-RowEntry-clause-entry
returns-in-RowEntry-clause-entry g c = λ refs d y h held. c.entry_like.ensures refs d y.position h (holds-stands c.args.region.now c.args.e y held)

pub returns-in-RowEntry-clause-statics : goal.returns-in-RowEntry-clause-statics
returns-in-RowEntry-clause-statics g c = λ row s held. absurd (no-static c.args.region.now c.args.e row held (entry-kind (body c.args.region.now c.args.e) (inl c.in-RowEntry.ensures)))

pub returns-in-Dummy-clause-entry : goal.returns-in-Dummy-clause-entry
returns-in-Dummy-clause-entry g c = λ refs d y h held. c.entry_like-in-Dummy.ensures refs d y.position h (holds-stands c.args.region.now c.args.e y held)

pub returns-in-Dummy-clause-statics : goal.returns-in-Dummy-clause-statics
returns-in-Dummy-clause-statics g c = λ row s held. absurd (no-static c.args.region.now c.args.e row held (entry-kind (body c.args.region.now c.args.e) (inr c.in-Dummy.ensures)))

pub returns-in-Static-clause-entry : goal.returns-in-Static-clause-entry
returns-in-Static-clause-entry g c = λ refs d y h held. absurd (entry_apart (body c.args.region.now c.args.e) c.in-Static.ensures (holds-kind c.args.region.now c.args.e y held))

pub returns-in-Static-clause-statics : goal.returns-in-Static-clause-statics
returns-in-Static-clause-statics g c = λ row s held. c.static_row.ensures.named s
