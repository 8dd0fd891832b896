-- Each reader reads the spellings of its type and nothing else.
use Rattle.std.proofs.Common.{◌≡◌, ℕ, zero, suc, ◌≤◌, false, ltb, List, [], ◌∷◌, ◌++◌, length, Option, Some, None, refl, sym, ap, subst, ◌∙◌, append_assoc, arith}
use Rattle.std.specs.Prelude.{IfSome}
use Rattle.std.specs.Option.{option_map, option_and_then}
use Rattle.std.specs.List.{flat_map, AllByRecursion}
use Rattle.std.proofs.lemmas.Bool.{ltb-false, le-ltb}
use Rattle.rc_cell.specs.declared.writes.Cell.{Cell}
use Rattle.rc_cell.specs.declared.writes.Cell.TheVariants.{Live, Dead}
use Rattle.rc_cell.specs.declared.writes.Tomb.{Tomb}
use Rattle.rc_position.specs.declared.comps.Comp.{Comp}
use Rattle.rc_position.specs.declared.comps.Comp.TheVariants.{Int, Text}
use Rattle.rc_position.specs.declared.positions.Weight.{Weight}
use Rattle.rc_position.specs.declared.positions.Weight.TheVariants.{Before, At, After}
use Rattle.rc_position.specs.declared.positions.Pos.{Pos}
use Rattle.rc_rowcode.specs.Spelling.{stamp_code, time_code, length_code, optional_code, tomb_code, comp_code, key_code, pos_code, cell_code, IsTomb, IsComp, IsKey, IsPos, IsCell}
use Rattle.rc_position.specs.Position.{weight_number}
use Rattle.rc_rowcode.specs.calls.Reading.{Parser, parse_stamp, parse_time, parse_length, parse_bytes, parse_optional, parse_tomb, parse_text, parse_component, parse_components, parse_key, parse_position, parse_live, parse_dead, parse_cell}
use Rattle.rc_rowcode.specs.laws.Fields.{IsBytes, bytes_rest, Took, Codec, bind_some, map_some, guard_some, some_is, time_codec, length_codec, stamp_codec, bytes_took, bytes_again}

-- ---- an optional value

optional_took : {X : Type 0} {code : X → List ℕ} {is : X → Type 0} {read : Parser X} → Codec code is read → (bytes : List ℕ) (x : Option X × List ℕ) → IsBytes bytes → parse_optional read bytes ≡ Some x
    → Took (optional_code code) (λ o. IfSome o is) bytes x.0 x.1
unfolding parse_optional
optional_took codec [] x fits e = absurd cc
optional_took {X} {code} {is} codec (zero ∷ rest) x fits e =
    subst (λ (y : Option X × List ℕ). Took (optional_code code) (λ o. IfSome o is) (0 ∷ rest) y.0 y.1) (some_is _ _ e) (record { parts = refl; left = bytes_rest 0 rest fits; fits = tt })
optional_took {X} {code} {is} {read} codec (suc zero ∷ rest) x fits e =
    let a = map_some (read rest) (λ y. (Some y.0, y.1)) x e in
    let t = codec.took rest a.0 (bytes_rest 1 rest fits) a.1 in
    subst (λ (y : Option X × List ℕ). Took (optional_code code) (λ o. IfSome o is) (1 ∷ rest) y.0 y.1) a.2 (record { parts = ap (λ (w : List ℕ). 1 ∷ w) t.parts; left = t.left; fits = t.fits })
optional_took codec (suc (suc b) ∷ rest) x fits e = absurd cc

optional_again : {X : Type 0} {code : X → List ℕ} {is : X → Type 0} {read : Parser X} → Codec code is read → (o : Option X) (rest : List ℕ) → IfSome o is → parse_optional read (optional_code code o ++ rest) ≡ Some (o, rest)
unfolding parse_optional
optional_again codec None rest h = refl
optional_again codec (Some x) rest h = rw (codec.again x rest h) refl

pub optional_codec : {X : Type 0} {code : X → List ℕ} {is : X → Type 0} {read : Parser X} → Codec code is read → Codec (optional_code code) (λ o. IfSome o is) (parse_optional read)
optional_codec codec = record { took = optional_took codec; again = optional_again codec }

-- ---- tombstones

tomb_took : (bytes : List ℕ) (x : Tomb × List ℕ) → IsBytes bytes → parse_tomb bytes ≡ Some x → Took tomb_code IsTomb bytes x.0 x.1
unfolding parse_tomb
tomb_took bytes x fits e =
    let a = bind_some (parse_stamp bytes) (λ ts. option_map (λ dt. (record { ts = ts.0; dt = dt.0 }, dt.1)) (parse_time ts.1)) x e in
    let b = map_some (parse_time a.0.1) (λ dt. (record { ts = a.0.0; dt = dt.0 }, dt.1)) x a.2 in
    let t = stamp_codec.took bytes a.0 fits a.1 in
    let u = time_codec.took a.0.1 b.0 t.left b.1 in
    subst (λ (y : Tomb × List ℕ). Took tomb_code IsTomb bytes y.0 y.1) b.2
    (record { parts = t.parts ∙ ap (λ (w : List ℕ). stamp_code a.0.0 ++ w) u.parts ∙ sym (append_assoc (stamp_code a.0.0) (time_code b.0.0) b.0.1); left = u.left; fits = (t.fits, u.fits) })

tomb_again : (t : Tomb) (rest : List ℕ) → IsTomb t → parse_tomb (tomb_code t ++ rest) ≡ Some (t, rest)
unfolding parse_tomb
tomb_again t rest fits =
    ap parse_tomb (append_assoc (stamp_code t.ts) (time_code t.dt) rest)
    ∙ rw (stamp_codec.again t.ts (time_code t.dt ++ rest) fits.0, time_codec.again t.dt rest fits.1) refl

pub tomb_codec : Codec tomb_code IsTomb parse_tomb
tomb_codec = record { took = tomb_took; again = tomb_again }

-- ---- components and keys

comp_took : (bytes : List ℕ) (x : Comp × List ℕ) → IsBytes bytes → parse_component bytes ≡ Some x → Took comp_code IsComp bytes x.0 x.1
unfolding parse_component parse_text
comp_took [] x fits e = absurd cc
comp_took (zero ∷ rest) x fits e =
    let a = map_some (parse_stamp rest) (λ n. (Int n.0, n.1)) x e in
    let t = stamp_codec.took rest a.0 (bytes_rest 0 rest fits) a.1 in
    subst (λ (y : Comp × List ℕ). Took comp_code IsComp (0 ∷ rest) y.0 y.1) a.2 (record { parts = ap (λ (w : List ℕ). 0 ∷ w) t.parts; left = t.left; fits = t.fits })
comp_took (suc zero ∷ []) x fits e = absurd cc
comp_took (suc zero ∷ n ∷ rest) x fits e =
    let a = map_some (parse_bytes 64 n rest) (λ t. (Text t.0, t.1)) x e in
    let t = bytes_took 64 n rest a.0 (bytes_rest n rest (bytes_rest 1 (n ∷ rest) fits)) a.1 in
    subst (λ (y : Comp × List ℕ). Took comp_code IsComp (1 ∷ n ∷ rest) y.0 y.1) a.2 (record { parts = (λ i. 1 ∷ sym t.2 i ∷ t.0 i); left = t.1; fits = omega (arith, t.2, t.3) })
comp_took (suc (suc b) ∷ rest) x fits e = absurd cc

comp_again : (c : Comp) (rest : List ℕ) → IsComp c → parse_component (comp_code c ++ rest) ≡ Some (c, rest)
unfolding parse_component parse_text
comp_again (Int n) rest fits = rw (stamp_codec.again n rest fits) refl
comp_again (Text bytes) rest fits = rw (bytes_again 64 bytes rest fits) refl

pub comp_codec : Codec comp_code IsComp parse_component
comp_codec = record { took = comp_took; again = comp_again }

comps_took : (n : ℕ) (bytes : List ℕ) (x : List Comp × List ℕ) → IsBytes bytes → parse_components n bytes ≡ Some x → Took (flat_map comp_code) (λ cs. (length cs ≡ n) × AllByRecursion IsComp cs) bytes x.0 x.1
unfolding parse_components
comps_took zero bytes x fits e =
    subst (λ (y : List Comp × List ℕ). Took (flat_map comp_code) (λ cs. (length cs ≡ 0) × AllByRecursion IsComp cs) bytes y.0 y.1) (some_is _ _ e) (record { parts = refl; left = fits; fits = (refl, tt) })
comps_took (suc n) bytes x fits e =
    let a = bind_some (parse_component bytes) (λ c. option_map (λ cs. (c.0 ∷ cs.0, cs.1)) (parse_components n c.1)) x e in
    let b = map_some (parse_components n a.0.1) (λ cs. (a.0.0 ∷ cs.0, cs.1)) x a.2 in
    let t = comp_took bytes a.0 fits a.1 in
    let u = comps_took n a.0.1 b.0 t.left b.1 in
    subst (λ (y : List Comp × List ℕ). Took (flat_map comp_code) (λ cs. (length cs ≡ suc n) × AllByRecursion IsComp cs) bytes y.0 y.1) b.2
    (record { parts = t.parts ∙ ap (λ (w : List ℕ). comp_code a.0.0 ++ w) u.parts ∙ sym (append_assoc (comp_code a.0.0) (flat_map comp_code b.0.0) b.0.1); left = u.left; fits = (ap suc u.fits.0, (t.fits, u.fits.1)) })

comps_again : (cs : List Comp) (rest : List ℕ) → AllByRecursion IsComp cs → parse_components (length cs) (flat_map comp_code cs ++ rest) ≡ Some (cs, rest)
unfolding parse_components
comps_again [] rest fits = refl
comps_again (c ∷ cs) rest fits =
    ap (parse_components (suc (length cs))) (append_assoc (comp_code c) (flat_map comp_code cs) rest)
    ∙ rw (comp_again c (flat_map comp_code cs ++ rest) fits.0, comps_again cs rest fits.1) refl

key_took : (bytes : List ℕ) (x : List Comp × List ℕ) → IsBytes bytes → parse_key bytes ≡ Some x → Took key_code IsKey bytes x.0 x.1
unfolding parse_key
key_took [] x fits e = absurd cc
key_took (n ∷ rest) x fits e =
    let g = guard_some (ltb 4 n) (parse_components n rest) x e in
    let low : n ≤ 4 = ltb-false _ _ g.0 in
    let t = comps_took n rest x (bytes_rest n rest fits) g.1 in
    record { parts = (λ i. sym t.fits.0 i ∷ t.parts i); left = t.left; fits = (omega (arith, t.fits.0), t.fits.1) }

key_again : (k : List Comp) (rest : List ℕ) → IsKey k → parse_key (key_code k ++ rest) ≡ Some (k, rest)
unfolding parse_key
key_again k rest fits =
    let low : ltb 4 (length k) ≡ false = le-ltb _ _ fits.0 in
    rw (low, comps_again k rest fits.1) refl

pub key_codec : Codec key_code IsKey parse_key
key_codec = record { took = key_took; again = key_again }

-- ---- positions

pos_took : (bytes : List ℕ) (x : Pos × List ℕ) → IsBytes bytes → parse_position bytes ≡ Some x → Took pos_code IsPos bytes x.0 x.1
unfolding parse_position
pos_took [] x fits e = absurd cc
pos_took (zero ∷ rest) x fits e =
    let a = map_some (parse_key rest) (λ k. (record { prefix = k.0; weight = Before }, k.1)) x e in
    let t = key_took rest a.0 (bytes_rest 0 rest fits) a.1 in
    subst (λ (y : Pos × List ℕ). Took pos_code IsPos (0 ∷ rest) y.0 y.1) a.2 (record { parts = ap (λ (w : List ℕ). 0 ∷ w) t.parts; left = t.left; fits = t.fits })
pos_took (suc zero ∷ rest) x fits e =
    let a = map_some (parse_key rest) (λ k. (record { prefix = k.0; weight = At }, k.1)) x e in
    let t = key_took rest a.0 (bytes_rest 1 rest fits) a.1 in
    subst (λ (y : Pos × List ℕ). Took pos_code IsPos (1 ∷ rest) y.0 y.1) a.2 (record { parts = ap (λ (w : List ℕ). 1 ∷ w) t.parts; left = t.left; fits = t.fits })
pos_took (suc (suc zero) ∷ rest) x fits e =
    let a = map_some (parse_key rest) (λ k. (record { prefix = k.0; weight = After }, k.1)) x e in
    let t = key_took rest a.0 (bytes_rest 2 rest fits) a.1 in
    subst (λ (y : Pos × List ℕ). Took pos_code IsPos (2 ∷ rest) y.0 y.1) a.2 (record { parts = ap (λ (w : List ℕ). 2 ∷ w) t.parts; left = t.left; fits = t.fits })
pos_took (suc (suc (suc b)) ∷ rest) x fits e = absurd cc

pos_parts_again : (k : List Comp) (w : Weight) (rest : List ℕ) → IsKey k → parse_position (weight_number w ∷ (key_code k ++ rest)) ≡ Some (record { prefix = k; weight = w }, rest)
unfolding parse_position
pos_parts_again k Before rest fits = rw (key_again k rest fits) refl
pos_parts_again k At rest fits = rw (key_again k rest fits) refl
pos_parts_again k After rest fits = rw (key_again k rest fits) refl

pub pos_codec : Codec pos_code IsPos parse_position
pos_codec = record { took = pos_took; again = λ x rest fits. pos_parts_again x.prefix x.weight rest fits }

-- ---- cells

cell_took : (bytes : List ℕ) (x : Cell × List ℕ) → IsBytes bytes → parse_cell bytes ≡ Some x → Took cell_code IsCell bytes x.0 x.1
unfolding parse_cell parse_live parse_dead
cell_took [] x fits e = absurd cc
cell_took (zero ∷ rest) x fits e =
    let a = bind_some (parse_stamp rest) (λ ts. option_and_then (λ n. option_map (λ v. (Live ts.0 v.0, v.1)) (parse_bytes 256 n.0 n.1)) (parse_length ts.1)) x e in
    let b = bind_some (parse_length a.0.1) (λ n. option_map (λ v. (Live a.0.0 v.0, v.1)) (parse_bytes 256 n.0 n.1)) x a.2 in
    let d = map_some (parse_bytes 256 b.0.0 b.0.1) (λ v. (Live a.0.0 v.0, v.1)) x b.2 in
    let t = stamp_codec.took rest a.0 (bytes_rest 0 rest fits) a.1 in
    let u = length_codec.took a.0.1 b.0 t.left b.1 in
    let v = bytes_took 256 b.0.0 b.0.1 d.0 u.left d.1 in
    let inner : a.0.1 ≡ (length_code (length d.0.0) ++ d.0.0) ++ d.0.1 =
    u.parts ∙ (λ i. length_code (sym v.2 i) ++ v.0 i) ∙ sym (append_assoc (length_code (length d.0.0)) d.0.0 d.0.1) in
    let all : rest ≡ (stamp_code a.0.0 ++ (length_code (length d.0.0) ++ d.0.0)) ++ d.0.1 =
    t.parts ∙ ap (λ (w : List ℕ). stamp_code a.0.0 ++ w) inner ∙ sym (append_assoc (stamp_code a.0.0) (length_code (length d.0.0) ++ d.0.0) d.0.1) in
    subst (λ (y : Cell × List ℕ). Took cell_code IsCell (0 ∷ rest) y.0 y.1) d.2
    (record { parts = ap (λ (w : List ℕ). 0 ∷ w) all; left = v.1; fits = (t.fits, omega (arith, v.2, v.3)) })
cell_took (suc zero ∷ rest) x fits e =
    let a = map_some (parse_tomb rest) (λ t. (Dead t.0.ts t.0.dt, t.1)) x e in
    let t = tomb_took rest a.0 (bytes_rest 1 rest fits) a.1 in
    subst (λ (y : Cell × List ℕ). Took cell_code IsCell (1 ∷ rest) y.0 y.1) a.2 (record { parts = ap (λ (w : List ℕ). 1 ∷ w) t.parts; left = t.left; fits = t.fits })
cell_took (suc (suc b) ∷ rest) x fits e = absurd cc

cell_again : (c : Cell) (rest : List ℕ) → IsCell c → parse_cell (cell_code c ++ rest) ≡ Some (c, rest)
unfolding parse_cell parse_live parse_dead
cell_again (Live ts value) rest fits =
    let regrouped : (stamp_code ts ++ (length_code (length value) ++ value)) ++ rest ≡ stamp_code ts ++ (length_code (length value) ++ (value ++ rest)) =
    append_assoc (stamp_code ts) (length_code (length value) ++ value) rest ∙ ap (λ (w : List ℕ). stamp_code ts ++ w) (append_assoc (length_code (length value)) value rest) in
    ap (λ (w : List ℕ). parse_cell (0 ∷ w)) regrouped
    ∙ rw (stamp_codec.again ts (length_code (length value) ++ (value ++ rest)) fits.0, length_codec.again (length value) (value ++ rest) (omega (arith, fits.1)), bytes_again 256 value rest fits.1) refl
cell_again (Dead ts dt) rest fits = rw (tomb_again (record { ts = ts; dt = dt }) rest fits) refl

pub cell_codec : Codec cell_code IsCell parse_cell
cell_codec = record { took = cell_took; again = cell_again }
