use Rattle.std.proofs.Common.{sym, subst}
use Rattle.rc_chain_guarded.proofs.Steps.{from-if}
use Rattle.rc_chain_guarded.proofs.Turns.{keyed}
use Rattle.rc_memory.specs.Memory.{HasPin}
use Rattle.rc_position.specs.Position.{row_pos}
use Rattle.rc_chain_guarded.proofs.snaps.touch_key.Goals as goal

pub returns-in-Some : goal.returns-in-Some
returns-in-Some c =
    let m = c.args.chains.now in let held = c.in-Some.held in let snap = c.snap_of-snap.result in let p = c.requires.held held (from-if _ c.held_at.result held c.held_at.ensures c.in-Some.is) in
    keyed m c.touch_key.new.self snap.chain snap.pin (row_pos c.args.key.now) (subst (λ i. HasPin m i snap.pin) (sym c.snap_of-snap.ensures.chain) (subst (λ i. HasPin m held.chain i) (sym c.snap_of-snap.ensures.pin) p))
    c.touch_key.ensures.touched c.args.known.now c.requires
