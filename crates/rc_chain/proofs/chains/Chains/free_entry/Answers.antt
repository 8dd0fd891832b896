use Rattle.std.proofs.Common.{Some, refl, sym, ap, ◌∙◌, subst, arith}
use Rattle.std.specs.Prelude.{Contains}
use Rattle.rc_core.specs.declared.entries.Mark.{Mark}
use Rattle.rc_core.specs.Free.{free_entry}
use Rattle.rc_core.specs.Version.{Version, end_position}
use Rattle.rc_memory.specs.Memory.{KeptChain, Member}
use Rattle.rc_memory.specs.Changes.{AtAlone, IsVersionChanged, IsWithout, member_at}
use Rattle.rc_memory.specs.laws.Places.{same_some}
use Rattle.rc_chain.proofs.Changing.{member-entry, member-version, of-version}
use Rattle.rc_chain.proofs.Freeing.{freed-inner, freed-memtable, freed-there}
use Rattle.rc_chain.proofs.Reading.{memory-now, version-has}
use Rattle.rc_chain.proofs.chains.Chains.free_entry.Goals as goal

pub kind-kind-requires : goal.kind-kind-requires
kind-kind-requires g c =
    let s = c.self.inside in let n = memory-now g.row.S s.recency s.region s.registry s.counts s.memory c.args.self.now c.self.view_is c.self.invariant.0 c.self.invariant.1 in
    let q = c.requires in (omega arith, version-has c.args.self.now c.args.id 0 (member-version s.recency s.region s.registry s.counts c.args.self.now n.held c.args.e (member_at c.args.id 0 (Some q.0)) q.1))

pub end_of-end-requires : goal.end_of-end-requires
end_of-end-requires g c =
    let s = c.self.inside in let n = memory-now g.row.S s.recency s.region s.registry s.counts s.memory c.args.self.now c.self.view_is c.self.invariant.0 c.self.invariant.1 in
    let q = c.requires in (omega arith, (member-version s.recency s.region s.registry s.counts c.args.self.now n.held c.args.e (member_at c.args.id 0 (Some q.0)) q.1))

pub marks-requires : goal.marks-requires
marks-requires g c =
    let s = c.self.inside in let n = memory-now g.row.S s.recency s.region s.registry s.counts s.memory c.args.self.now c.self.view_is c.self.invariant.0 c.self.invariant.1 in
    let y = member-entry s.recency s.region s.registry s.counts c.args.self.now n.held c.end_of-end.result (member_at c.args.id 0 (Some end_position)) end_position refl c.end_of-end.ensures in (omega arith, (y.entry, y.held))

pub drop_entry-requires : goal.drop_entry-requires
drop_entry-requires g c =
    let s = c.self.inside in let n = memory-now g.row.S s.recency s.region s.registry s.counts s.memory c.args.self.now c.self.view_is c.self.invariant.0 c.self.invariant.1 in
    let q = c.requires in (omega arith, (q.0, q.1, freed-inner c.args.self.now c.args.id q.0 c.known.ensures.versions q.2 (member-version s.recency s.region s.registry s.counts c.args.self.now n.held c.args.e (member_at c.args.id 0 (Some q.0)) q.1)))

pub set_flags-requires : goal.set_flags-requires
set_flags-requires g c =
    let s = c.self.inside in let n = memory-now g.row.S s.recency s.region s.registry s.counts s.memory c.args.self.now c.self.view_is c.self.invariant.0 c.self.invariant.1 in
    let q = c.requires in (omega arith, ((member_at c.args.id 0 (Some end_position)), end_position, refl, (c.drop_entry.ensures.dropped q.0 q.1).still.objects c.end_of-end.result (member_at c.args.id 0 (Some end_position)) (λ same. freed-inner c.args.self.now c.args.id q.0 c.known.ensures.versions q.2 (member-version s.recency s.region s.registry s.counts c.args.self.now n.held c.args.e (member_at c.args.id 0 (Some q.0)) q.1) (sym (same_some end_position q.0 (ap (λ (w : Member). w.position) same)))) c.end_of-end.ensures))

pub returns-in-Memtable-clause-freed : goal.returns-in-Memtable-clause-freed
returns-in-Memtable-clause-freed g c =
    let s = c.self.inside in let n = memory-now g.row.S s.recency s.region s.registry s.counts s.memory c.args.self.now c.self.view_is c.self.invariant.0 c.self.invariant.1 in
    let q = c.requires in let y = member-entry s.recency s.region s.registry s.counts c.args.self.now n.held c.end_of-end.result (member_at c.args.id 0 (Some end_position)) end_position refl c.end_of-end.ensures in
    let all = freed-memtable c.args.self.now c.args.id q.0 c.known.ensures.versions q.2 (AtAlone (member_at c.args.id 0 (Some q.0))) c.drop_entry.new.self c.set_flags.new.self c.marks.result.0.flag y.entry (of-version c.args.self.now c.args.id 0 (λ (k : KeptChain) (v : Version). Contains v.entries y.entry) y.chain y.version y.there y.number y.among) y.position (ap (λ (z : Mark). z.flag) (c.marks.ensures y.entry y.held).0) (c.drop_entry.ensures.dropped q.0 q.1) (c.set_flags.ensures.set (member_at c.args.id 0 (Some end_position)) end_position refl ((c.drop_entry.ensures.dropped q.0 q.1).still.objects c.end_of-end.result (member_at c.args.id 0 (Some end_position)) (λ same. freed-inner c.args.self.now c.args.id q.0 c.known.ensures.versions q.2 (member-version s.recency s.region s.registry s.counts c.args.self.now n.held c.args.e (member_at c.args.id 0 (Some q.0)) q.1) (sym (same_some end_position q.0 (ap (λ (w : Member). w.position) same)))) c.end_of-end.ensures)) in
    record { at = q.0; there = freed-there c.args.self.now c.args.id q.0 c.known.ensures.versions q.2; inner = freed-inner c.args.self.now c.args.id q.0 c.known.ensures.versions q.2 (member-version s.recency s.region s.registry s.counts c.args.self.now n.held c.args.e (member_at c.args.id 0 (Some q.0)) q.1); last = q.2; changed = λ k e. subst (λ kind. IsVersionChanged c.args.id 0 (free_entry kind q.0) (AtAlone (member_at c.args.id 0 (Some q.0))) c.args.self.now c.set_flags.new.self) (sym c.in-Memtable.is ∙ c.kind-kind.ensures k e) all; recency = subst (IsWithout (member_at c.args.id 0 (Some q.0)) c.args.self.now.recency) (sym c.set_flags.ensures.recency) (c.drop_entry.ensures.recency q.0 q.1) }

pub returns-in-Cache-clause-freed : goal.returns-in-Cache-clause-freed
returns-in-Cache-clause-freed g c =
    let s = c.self.inside in let n = memory-now g.row.S s.recency s.region s.registry s.counts s.memory c.args.self.now c.self.view_is c.self.invariant.0 c.self.invariant.1 in
    let q = c.requires in record { at = q.0; there = freed-there c.args.self.now c.args.id q.0 c.known.ensures.versions q.2; inner = freed-inner c.args.self.now c.args.id q.0 c.known.ensures.versions q.2 (member-version s.recency s.region s.registry s.counts c.args.self.now n.held c.args.e (member_at c.args.id 0 (Some q.0)) q.1); last = q.2; changed = λ k e. subst (λ kind. IsVersionChanged c.args.id 0 (free_entry kind q.0) (AtAlone (member_at c.args.id 0 (Some q.0))) c.args.self.now c.drop_entry.new.self) (sym c.in-Cache.is ∙ c.kind-kind.ensures k e) (c.drop_entry.ensures.dropped q.0 q.1); recency = c.drop_entry.ensures.recency q.0 q.1 }
