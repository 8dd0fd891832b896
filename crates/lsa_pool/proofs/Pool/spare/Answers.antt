use Rattle.std.proofs.Common.{◌≡◌, ◌-◌, ◌<◌, length, sym, ap, ◌∙◌, arith}
use Rattle.lsa_pool.specs.Room.{active_room}
use Rattle.lsa_pool.specs.laws.Usages.{within}
use Rattle.lsa_pool.proofs.Books.{active-kept, active_room-some, active_room-none, spare-parts}
use Rattle.lsa_pool.proofs.Pool.spare.Goals as goal
use Rattle.lsa_pool.proofs.Pool.spare.Goals.{in-Some, in-None}

pub get-requires : goal.get-requires
get-requires g c =
    let us = c.self.inside.usages in
    let here = c.self.invariant.active_is c.in-Some.n c.in-Some.is in
    let lt : c.in-Some.n < length us = within us c.in-Some.n (λ e. let clash = sym e ∙ here in cc) in
    (omega arith, lt)

pub overflow_sub-room : goal.overflow_sub-room
overflow_sub-room g c =
    let us = c.self.inside.usages in
    let here = c.self.invariant.active_is c.in-Some.n c.in-Some.is in
    let lt : c.in-Some.n < length us = within us c.in-Some.n (λ e. let clash = sym e ∙ here in cc) in
    let read = c.get.ensures in
    omega (arith, c.self.invariant.sound.used c.in-Some.n, ap (λ v. v.used) read)

pub returns : goal.returns
returns g c =
    let us = c.self.inside.usages in
    let is = active-kept g.row.S us c.self.inside.free_list.items c.self.inside.free_len c.self.inside.active c.self.invariant in
    let room : c.match-self.room ≡ active_room g.row.S us = elim c.match-self.branch [
      | in-Some w ↦
          let n = w.in-Some.n in
          let here = c.self.invariant.active_is n w.in-Some.is in
          let lt : n < length us = within us n (λ e. let clash = sym e ∙ here in cc) in
          let read = w.get.ensures in
          w.room-is ∙ ap (λ v. g.row.S - v.used) read ∙ sym (active_room-some g.row.S us n (is ∙ w.in-Some.is))
      | in-None w ↦ w.room-is ∙ sym (active_room-none g.row.S us (is ∙ w.in-None.is))
    ] in
    rw (← c.self.view_is) (spare-parts g.row.S us c.self.inside.free_len c.match-self.room c.saturating_sub.result c.self.invariant.counted room c.saturating_sub.ensures)
