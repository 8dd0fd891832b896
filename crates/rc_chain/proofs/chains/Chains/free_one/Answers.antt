use Rattle.std.proofs.Common.{inl, inr, sym, ◌∙◌, arith}
use Rattle.rc_chain.proofs.Freeing.{left-bare, left-free, left-has}
use Rattle.rc_chain.proofs.chains.Chains.free_one.Goals as goal

pub last_inner-requires : goal.last_inner-requires
last_inner-requires g c =
    (omega arith, left-has c.args.self.now c.args.id c.requires c.known.ensures.sound)

pub free_entry-requires : goal.free_entry-requires
free_entry-requires g c =
    (omega arith, c.in-Some.ensures.some)

pub has_static-requires : goal.has_static-requires
has_static-requires g c =
    (omega arith, left-has c.args.self.now c.args.id c.requires c.known.ensures.sound)

pub free_statics-requires : goal.free_statics-requires
free_statics-requires g c =
    (omega arith, (left-has c.args.self.now c.args.id c.requires c.known.ensures.sound, ((λ k v e at. sym (c.has_static.ensures k v e at) ∙ c.if-has_static.true), c.in-None.ensures.none)))

pub free_version-requires : goal.free_version-requires
free_version-requires g c =
    (omega arith, (left-bare c.args.self.now c.args.id c.requires c.known.ensures.sound c.known.ensures.versions (λ k v e at. sym (c.has_static.ensures k v e at) ∙ c.if-has_static.false) c.in-None.ensures.none, left-free c.args.self.now c.args.id c.requires c.known.ensures.sound))

pub returns-in-Some-clause-freed : goal.returns-in-Some-clause-freed
returns-in-Some-clause-freed g c =
    inl c.free_entry.ensures.freed

pub returns-then-has_static-clause-freed : goal.returns-then-has_static-clause-freed
returns-then-has_static-clause-freed g c =
    inr (inl c.free_statics.ensures.freed)

pub returns-else-has_static-clause-freed : goal.returns-else-has_static-clause-freed
returns-else-has_static-clause-freed g c =
    inr (inr (left-bare c.args.self.now c.args.id c.requires c.known.ensures.sound c.known.ensures.versions (λ k v e at. sym (c.has_static.ensures k v e at) ∙ c.if-has_static.false) c.in-None.ensures.none, c.free_version.ensures.freed))
