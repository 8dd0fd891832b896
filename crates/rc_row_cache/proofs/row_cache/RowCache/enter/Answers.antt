use Rattle.std.proofs.Common.{inl, ◌≤◌, ◌/◌, refl, sym, ◌∙◌, subst, arith}
use Rattle.std.specs.Prelude.{IfOk, IfSome, OnErr, Option}
use Rattle.rc_cell.specs.declared.rows.Row.{Row}
use Rattle.rc_cell.specs.declared.writes.Tomb.{Tomb}
use Rattle.rc_rowcode.specs.Spelling.{RowFits}
use Rattle.rc_version.specs.Versions.{statics_bytes}
use Rattle.rc_entries.specs.Filling.{filled_statics}
use Rattle.rc_snapshots.specs.laws.Seeing.{all-see}
use Rattle.rc_row_cache.specs.Calls.{IsEnterRefused, IsEntered, below_entry}
use Rattle.rc_row_cache.specs.Saying.{CacheSays}
use Rattle.rc_filler.specs.Crowds.{loses-nothing}
use Rattle.rc_row_cache.specs.laws.Losing.{loses-wider}
use Rattle.rc_row_cache.proofs.Cache.{pins-same}
use Rattle.rc_row_cache.proofs.Numbered.{none-is-none}
use Rattle.rc_row_cache.proofs.Taking.{same-lost}
use Rattle.rc_row_cache.proofs.row_cache.RowCache.enter.Goals as goal

pub enter_by-requires : goal.enter_by-requires
enter_by-requires g c =
    let small : statics_bytes (filled_statics c.in-Ok.head.statics) ≤ g.row.S / 8 = subst (λ (r : Row). statics_bytes (filled_statics r) ≤ g.row.S / 8) (sym c.in-Ok.ensures.1) c.requires.small in
    (omega arith, (c.requires.entries, (c.requires.absent, (c.requires.roomy, (subst RowFits (sym c.in-Ok.ensures.1) c.requires.row, small)))))

pub returns-in-Ok-clause-entered : goal.returns-in-Ok-clause-entered
returns-in-Ok-clause-entered g c =
    subst (λ (r : Row). IfOk c.enter_by.result (λ o. IfSome o (IsEntered g.row.S c.args.key.now c.args.read.now.pt r c.args.phase c.enter_by.new.self.entries c.args.chains.now c.enter_by.new.chains))) c.in-Ok.ensures.1
    (subst (λ (t : Option Tomb). IfOk c.enter_by.result (λ o. IfSome o (IsEntered g.row.S c.args.key.now t c.in-Ok.head.statics c.args.phase c.enter_by.new.self.entries c.args.chains.now c.enter_by.new.chains))) c.in-Ok.ensures.0 c.enter_by.ensures.entered)

pub returns-in-Ok-clause-may : goal.returns-in-Ok-clause-may
returns-in-Ok-clause-may g c = c.enter_by.ensures.may

pub returns-in-Ok-clause-kept_out : goal.returns-in-Ok-clause-kept_out
returns-in-Ok-clause-kept_out g c = c.enter_by.ensures.kept_out

pub returns-in-Ok-clause-refused : goal.returns-in-Ok-clause-refused
returns-in-Ok-clause-refused g c =
    subst (λ (r : Row). OnErr c.enter_by.result (IsEnterRefused g.row.S c.args.read.now.pt r c.args.phase c.args.chains.now c.enter_by.new.chains)) c.in-Ok.ensures.1
    (subst (λ (t : Option Tomb). OnErr c.enter_by.result (IsEnterRefused g.row.S t c.in-Ok.head.statics c.args.phase c.args.chains.now c.enter_by.new.chains)) c.in-Ok.ensures.0 c.enter_by.ensures.refused)

pub returns-in-Err-clause-refused : goal.returns-in-Err-clause-refused
returns-in-Err-clause-refused g c = inl refl

pub returns-in-Ok-clause-others : goal.returns-in-Ok-clause-others
returns-in-Ok-clause-others g c = c.enter_by.ensures.others

pub returns-in-Ok-clause-entries : goal.returns-in-Ok-clause-entries
returns-in-Ok-clause-entries g c = c.enter_by.ensures.entries

pub returns-in-Ok-clause-says : goal.returns-in-Ok-clause-says
returns-in-Ok-clause-says g c = λ schema below writes fit head row says. c.enter_by.ensures.says schema below writes fit (head ∙ sym c.in-Ok.ensures.0) (row ∙ sym c.in-Ok.ensures.1) says

pub returns-in-Ok-clause-pins : goal.returns-in-Ok-clause-pins
returns-in-Ok-clause-pins g c = c.enter_by.ensures.pins

pub returns-in-Ok-clause-seen : goal.returns-in-Ok-clause-seen
returns-in-Ok-clause-seen g c = c.enter_by.ensures.seen

pub returns-in-Err-clause-others : goal.returns-in-Err-clause-others
returns-in-Err-clause-others g c = λ q id e ne. e

pub returns-in-Err-clause-entries : goal.returns-in-Err-clause-entries
returns-in-Err-clause-entries g c = c.requires.entries

pub returns-in-Err-clause-says : goal.returns-in-Err-clause-says
returns-in-Err-clause-says g c = λ schema below writes fit head row says. subst (λ o. CacheSays schema (below_entry o writes below) c.args.chains.now) (sym c.requires.absent) says

pub returns-in-Err-clause-pins : goal.returns-in-Err-clause-pins
returns-in-Err-clause-pins g c = λ below id pin. pins-same below id pin c.args.chains.now c.args.chains.now (λ k kind there. there)

pub returns-in-Err-clause-seen : goal.returns-in-Err-clause-seen
returns-in-Err-clause-seen g c = all-see c.args.chains.now c.args.chains.now (same-lost c.args.chains.now c.args.chains.now (λ id. refl))

pub returns-in-Err-clause-loses : goal.returns-in-Err-clause-loses
returns-in-Err-clause-loses g c = loses-wider g.row.S 1 c.args.chains.now c.args.chains.now (loses-nothing g.row.S c.args.chains.now)

pub returns-in-Ok-clause-apart : goal.returns-in-Ok-clause-apart
returns-in-Ok-clause-apart g c = c.enter_by.ensures.apart

pub returns-in-Err-clause-apart : goal.returns-in-Err-clause-apart
returns-in-Err-clause-apart g c = λ id pin e h. none-is-none id (sym c.requires.absent ∙ e)
