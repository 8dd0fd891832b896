use Rattle.std.proofs.Common.{arith}
use Rattle.rc_version.proofs.Likes.{like-entry, like-static, like-there, no-static, not-both}
use Rattle.rc_version.proofs.joining.join_like.Goals as goal

pub kind-requires : goal.kind-requires
kind-requires g c = (omega arith, like-there g.row.S c.args.region.now c.args.sc.now.size c.args.v c.args.e c.requires)

pub join_entry_like-requires : goal.join_entry_like-requires
join_entry_like-requires g c = (omega arith, like-entry g.row.S c.args.region.now c.args.sc.now.size c.args.v c.args.e c.requires c.in-RowEntry.ensures)

pub join_statics_like-requires : goal.join_statics_like-requires
join_statics_like-requires g c = (omega arith, like-static g.row.S c.args.region.now c.args.sc.now.size c.args.v c.args.e c.requires c.in-Static.ensures)

pub returns-in-RowEntry-clause-statics : goal.returns-in-RowEntry-clause-statics
returns-in-RowEntry-clause-statics g c = λ row held. absurd (no-static c.args.region.now c.args.e row held c.in-RowEntry.ensures)

pub returns-in-Static-clause-entry : goal.returns-in-Static-clause-entry
returns-in-Static-clause-entry g c = λ y row held is. absurd (not-both c.args.region.now c.args.e y row held is c.in-Static.ensures)
