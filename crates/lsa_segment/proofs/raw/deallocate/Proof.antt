-- `deallocate` forgets what the bytes are, and gives the block back by the right to do so. Assumes `Logic`.
use Rattle.std.proofs.Common.{◌≡◌, ℕ, ◌+◌, List, [], ◌∷◌, ◌++◌, length, replicate, refl, sym, subst, ◌∙◌, w64, arith, lit<, None}
use mir.Syntax.{Ty, Fn, Args, a_type, dcons, dnil, ty_array}
use mir.Val.{Val, vint, vptr}
use mir.MapTy.{inst_fn}
use base.Logic.{SProp, id⊢}
use base.Fml.{Lft, Share, ftrue, flft}
use prog.Wp.{Env, WpFn}
use contract.BorrowLft.{◌⊑◌, ⊑_trans}
use contract.Monad.{fact}
use contract.Running.{tables}
use types.Kit.{‵, raw, ◌⊛◌, later, prop, at_ret, ◌$◌, ◌∵◌, !, qed, by, move, use1, split, join, regoal, fsplit, fjoin, await}
use types.Part.{whole}
use types.Run.{stop, fld, lit, of_opd, no_more, and_then, first, exec, returns, enter}
use types.ByLocal.{alloc_all, pass_all, free_all, look_at, get, get_in, sets, env}
use denote.Builtin.{RefOf, usize}
use denote.RattleType.{RattleType, owns}
use denote.RawPtr.{Ptr}
use denote.Param.{param, bounded, layout}
use denote.Signature.{plain}
use denote.Steps.{nothing, heard}
use denote.Triple.Entry.{alive}
use denote.Triple.Walked.{Stays, stay_dropped, walk_of, Goes-dropped}
use Rattle.core.proofs.mem.Param.{elτ}
use Rattle.core.proofs.alloc.Calls.{Al}
use Rattle.core.proofs.alloc.Shapes.{after}
use Rattle.core.proofs.atomic.Steps.{fm}
use Rattle.core.proofs.slots.Leases.{block_ty, block_size, block_align}
use Rattle.std_alloc.proofs.RcSteps.{word, word-Good}
use Rattle.std.proofs.raw_atomic.Walks.{proved_at, leaves}
use Rattle.circular_buffer.specs.Ownership.{slots}
use Rattle.circular_buffer.proofs.Memory.{sz, mark}
use Rattle.lsa_segment.specs.Raw.{byte_row}
use Rattle.lsa_segment.specs.contracts.raw.Owned.{the_row as O}
use Rattle.lsa_segment.specs.contracts.raw.Start.{the_row as St}
use Rattle.lsa_segment.specs.contracts.raw.Right as D-type
use Rattle.lsa_segment.proofs.Byte.{byte}
use Rattle.lsa_segment.proofs.Emptied.{emptied}
use Rattle.lsa_segment.specs.contracts.raw.deallocate as f
use Rattle.lsa_segment.proofs.raw.deallocate.Statement.{statement}
use Rattle.lsa_segment.proofs.raw.deallocate.Code as code
use base.Fraction.{full_share}
use base.Logic.{ent, never}
use base.Fml.{fat, froom}
use lib.Dec.{T}
use mir.Syntax.{named, ty_unit}
use mir.Val.{vunit, has_ty, WT}
use seplogic.Ra.Ura.{Ura}
use types.Logic.{Logic, sem}
use types.Kit.{given, keep, learn, frame, group, rewrite, fsplit3, feq_i, feq_l, flt_l}
use types.Part.{sub}
use types.Run.{unit_lit, blocks}
use types.ByLocal.{lands_last, take_at, give_at}
use denote.Ref.{ShrRef}
use denote.RawPtr.{in_a_block}
use denote.Triple.Call.{calls_at_last}
use Rattle.core.proofs.alloc.Calls.{token, Gives, at_gives, Gives-goes, Gives-Gives, Goes-blank}
use Rattle.std_alloc.proofs.RawLayout.{as_raw}
use Rattle.std.proofs.Common.{Option}
use Rattle.circular_buffer.specs.Ownership.{slot, cells_own, deed_owns}
use Rattle.circular_buffer.proofs.Memory.{word_had, mark_had, to_room}

-- each byte becomes room
unset : {M : Type 1} {𝓤 : Ura M} (𝓛 : Logic 𝓤) (bytes : List (Option ℕ)) (b o : ℕ) → ent 𝓤 (sem 𝓛 (slots byte_row b o bytes)) (sem 𝓛 (slots byte_row b o (replicate (length bytes) None)))
unset {𝓤 = 𝓤} 𝓛 [] b o = id⊢ 𝓤 _
unset {𝓤 = 𝓤} 𝓛 (place ∷ bytes) b o =
    qed 𝓛 (‵ (slot byte_row b o place) ∷ ‵ (slots byte_row b (o + sz byte) bytes) ∷ []) ∵
    use1 𝓛 (‵ (slot byte_row b o None)) (emptied 𝓛 place b o) $ frame ! $ by ! (unset 𝓛 bytes b (o + sz byte))

pub deallocate_spec : {M : Type 1} → statement M
deallocate_spec 𝓤 𝓛 𝓜 𝓡 wired A L g d dd met md =
    let H = 𝓛.H in let ended = f.ended A g d dd in let c = f.clauses A g d dd 𝓛 𝓜.mem 𝓡.returns in
    let args : Args = bounded (a_type ∷ []) (A, tt) (dcons d (dcons dd dnil)) in let fn : Fn = inst_fn args code.function in
    let P : RattleType = param 0 A in let D : RattleType = D-type.the_row P g in
    let stays : Stays ended.signature.params ended.kept = (stay_dropped (RefOf (0 ∷ []) tt (plain (λ _. P)) (λ _. tt)) ended.kept.0, (stay_dropped (plain (λ _. St)) ended.kept.1.0, (stay_dropped (plain (λ _. usize)) ended.kept.1.1.0, (stay_dropped (plain (λ _. O)) ended.kept.1.1.1.0, (stay_dropped (plain (λ _. D)) ended.kept.1.1.1.1.0, tt))))) in
    let C = (tables 𝓤 H 𝓜 𝓡 𝓡.env).C in let Λ = (tables 𝓤 H 𝓜 𝓡 𝓡.env).Λ in
    proved_at 𝓛 ended stays c 𝓜 𝓡 (
      Goes-dropped 𝓛 2 (RefOf (0 ∷ []) tt (plain (λ _. P)) (λ _. tt)) ended.kept.0 (λ κs x k. refl),
      (
        Goes-dropped 𝓛 2 (plain (λ _. St)) ended.kept.1.0 (λ κs x k. refl),
        (
          Goes-dropped 𝓛 2 (plain (λ _. usize)) ended.kept.1.1.0 (λ κs x k. refl),
          (Goes-blank 𝓛 2 (plain (λ _. O)) ended.kept.1.1.1.0 (λ κs x k. tt), (Goes-blank 𝓛 2 (plain (λ _. D)) ended.kept.1.1.1.1.0 (λ κs x k. tt), tt)),
        ),
      ),
    )
    (f.Key.name args) fn (code.unfolded 𝓤 H 𝓜 𝓡 wired (A, tt) d dd) (λ z are.
    let Post : Val → SProp 𝓤 = (walk_of 𝓛 ended stays c).post z in
    let Y : Al = record { row = A; laws = L; g = g; d = d; drops = dd } in
    let κ : Lft = z.0.0.0 in let q : Share = z.0.1.0 in let h = z.0.3.0.now in let at = z.0.3.0.ref_ptr in
    let start = z.0.3.1.0 in let len = z.0.3.1.1.0 in let bytes = z.0.3.1.1.1.0 in let right = z.0.3.1.1.1.1.0 in
    let us0 = z.0.4.0 in let us1 = z.0.4.1.0 in let us2 = z.0.4.1.1.0 in let us3 = z.0.4.1.1.1.0 in let us4 = z.0.4.1.1.1.1.0 in
    let Asked : Type 0 = (bytes.at ≡ start.at) × (length bytes.bytes ≡ len) × (right.at ≡ start.at) × (right.len ≡ len) × (right.alloc ≡ h) in
    qed 𝓛 ((raw (alive 𝓛 ended.signature z.0.0 z.0.1) ⊛ ‵ (owns (ShrRef (named 0) κ P ∷ St ∷ usize ∷ O ∷ D ∷ []) z.0.3 z.0.4)) ∷ (raw (fact 𝓤 (z.0.0.1.0 ⊑ A.lives)) ⊛ raw (fact 𝓤 Asked)) ∷ []) ∵
    move ! (1 ∷ []) $ split ! $ heard ! (z.0.0.1.0 ⊑ A.lives) (λ le. heard ! Asked (λ asked. split ! $
    use1 𝓛 (‵ (flft κ q) ⊛ ‵ (flft z.0.0.1.0 z.0.1.1.0) ⊛ ‵ ftrue) (id⊢ 𝓤 _) $ split ! $ move ! (2 ∷ []) $
    fsplit3 ! $ fsplit ! $ feq_l ! (λ e0. move ! (1 ∷ []) $ word_had ! start.at us1 (λ e1. move ! (1 ∷ []) $ fsplit3 ! $ fsplit ! $ feq_l ! (λ e2. flt_l ! (λ fits.
    fsplit ! $ mark_had ! byte us3 (λ e3. move ! (1 ∷ []) $ fsplit ! $ fsplit ! $ mark_had ! byte us4 (λ e4. keep ! (2 ∷ 0 ∷ 3 ∷ 4 ∷ 5 ∷ []) $
    -- [the bytes; the right; what the `&` shows; its token; the other tokens]
    regoal ! (λ (ws : List Val × List Val × List Val × List Val × List Val). prop (WpFn 𝓤 H C Λ fn (ws.0 ++ (ws.1 ++ (ws.2 ++ (ws.3 ++ (ws.4 ++ []))))) Post)) (λ i. (e0 i, e1 i, e2 i, e3 i, e4 i)) refl $
    enter ! C Λ fn (vptr at.0 at.1 ∷ word start.at ∷ vint w64 len ∷ mark ∷ mark ∷ []) Post $
    alloc_all ! (λ l. pass_all ! refl ((tt, tt), (word-Good [] start.at, ((tt, record { fits = fits }), ((tt, (tt, tt)), ((tt, (tt, tt)), tt))))) $
    let En : Env 𝓤 H = env fn.locals l in
    rewrite ! 0 (λ (p : Ptr). ‵ (cells_own byte_row p bytes.bytes)) asked.0 refl $
    in_a_block ! start.at (λ p. cells_own byte_row p bytes.bytes) (id⊢ 𝓤 (never 𝓤)) (λ b o e. fsplit ! $ flt_l ! (λ small.
    take_at ! 2 $ rewrite ! 0 (λ (p : Ptr). ‵ (fat full_share (layout St) (l 2) 0 (word p))) e refl $ give_at ! 2 $
    rewrite ! 1 (λ (r : A.Denot × Ptr × ℕ). ‵ (deed_owns byte_row (token Y r.0) r.1 r.2)) (λ i. (asked.4 i, (asked.2 ∙ e) i, asked.3 i)) refl $
    use1 𝓛 (‵ (slots byte_row b o (replicate (length bytes.bytes) None))) (unset 𝓛 bytes.bytes b o) $
    rewrite ! 0 (λ (k : ℕ). ‵ (slots byte_row b o (replicate k None))) asked.1 refl $
    use1 𝓛 (‵ (froom (ty_array (elτ byte) len) b o)) (to_room byte 𝓛 b len o) $ as_raw ! (ty_array (elτ byte) len) b o $ first ! $ blocks ! $
    let τ : Ty = block_ty byte len in let y = at_gives Y 𝓛 𝓜.mem 𝓡.returns κ q at h b o len 1 τ in
    let whole_size = block_size byte len (omega (arith, asked.1)) in
    group ! 4 $ use1 𝓛 (raw ((Gives Y 𝓛 𝓜.mem 𝓡.returns).pre y)) (Gives-goes Y 𝓛 𝓜.mem 𝓡.returns κ q at h (⊑_trans κ z.0.0.1.0 A.lives z.0.2.0 le) b o len 1 τ (omega (arith, whole_size)) (block_align byte len) fits (lit< tt)) $
    calls_at_last ! (fm 𝓛 𝓜 𝓡) (Gives Y 𝓛 𝓜.mem 𝓡.returns) (met.deallocate dd) y (and_then ! (get ! refl) (and_then ! (get_in ! (fld ! refl (stop !)) (sub ! 0 refl (whole !))) (and_then ! (get ! refl) (and_then ! (lit ! tt) (no_more !))))) (λ v.
    use1 𝓛 (later (given (v ≡ vunit) (‵ (flft κ q)))) (Gives-Gives Y 𝓛 𝓜.mem 𝓡.returns κ q at h b o len 1 τ v) $ await ! tt $ learn ! (λ done_with.
    lands_last ! refl (subst (λ (u : Val). T (has_ty ty_unit u) × WT u) (sym done_with) (tt, tt)) $ exec ! C Λ En (after 1 fn.body) (at_ret En Post) $
    sets ! (of_opd ! (unit_lit !)) refl (tt, tt) $ returns ! (look_at ! 0 refl) $ free_all ! refl $ join ! $
    feq_i ! (List Val) (vunit ∷ []) (vunit ∷ []) refl $ nothing ! $ nothing ! $ nothing ! $ fjoin ! $ nothing ! $ fjoin ! $ nothing ! $ fjoin ! $ nothing ! $ fjoin ! $ nothing ! $ fjoin ! $
    move ! (3 ∷ 0 ∷ 2 ∷ 1 ∷ []) $ by ! (leaves 𝓛 ended stays c z vunit tt (tt, (tt, (tt, (tt, (tt, tt))))) (tt, (tt, (tt, (tt, (tt, tt))))))))))))))))))))
