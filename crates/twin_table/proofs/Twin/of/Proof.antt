-- `of` reads the two addresses of a table that is shared for good.
use Rattle.atomic_table.proofs.Names.{◌≡◌, ℕ, List, [], ◌∷◌, sym, subst, refl, a_type, dcons, dnil, Val, vptr, inst_fn, SProp, Fml, flft, full_share, ‵, raw, ◌⊛◌, given, at_ret, ◌$◌, ◌∵◌, !, qed, by, move, keep, split, fsplit, fjoin, learn, use0, use1, rewrite, emp, fact_i, stop, fld, load, of_opd, addr, no_more, and_then, first, blocks, exec, returns, enter, alloc_all, pass_all, free_all, look_at, get, through, sets, sets_last, env, agg, sub, whole, look_in, tables, yes, RattleType, owns, types_at, plain, Ptr, block_ptr, InBlock, nothing, param, bounded, alive, Stays, stay_dropped, walk_of, Goes-dropped, fact, fact_use, guard_i, Coded, sem, Is, shows, cell_at, peeks, RefOf, shr_vals, shr_Tells, unhide, hidden_shr, looks, shuts, lent_out, Tuple}
use mir.Syntax.{static}
use Rattle.atomic_table.proofs.Walks.{proved, leaves}
use Rattle.std_alloc.proofs.VecSteps.Shapes.{after}
use Rattle.core.specs.contracts.marker.PhantomData as marker
use Rattle.atomic_table.specs.Seated.{TableId, Placed, common, table_shares}
use Rattle.atomic_table.specs.contracts.shared.Shared as table
use Rattle.atomic_table.proofs.Fields.{hand_of, HandData, hand_told, hand_opens, hand_made, hand_good, Ptr-Good}
use Rattle.atomic_table.proofs.Moves.{placed}
use Rattle.twin_table.specs.contracts.Twin as twin
use Rattle.twin_table.specs.contracts.Twin.of.{ended, clauses}
use Rattle.twin_table.specs.contracts.Twin.of.Key.{name as #self}
use Rattle.twin_table.proofs.Twin.of.Statement.{statement}
use Rattle.twin_table.proofs.Twin.of.Code as code

pub of_spec : {M : Type 1} → statement M
unfolding Rattle.atomic_table.specs.Seated.seal
of_spec 𝓤 𝓛 𝓜 𝓡 wired T U Q P _ _ _ _ g d _ =
    let H = 𝓛.H in let 𝓣 = tables 𝓤 H 𝓜 𝓡 𝓡.env in let R : RattleType = param 0 T in let W : RattleType = param 1 U in let X : RattleType = param 2 Q in let Y : RattleType = param 3 P in let En = ended T U Q P g d in
    let inst = bounded (a_type ∷ a_type ∷ a_type ∷ a_type ∷ []) (T, (U, (Q, (P, tt)))) (dcons d dnil) in let fn = inst_fn inst code.function in
    let Row : RattleType = table.the_row R W X Y g in let Two : RattleType = twin.the_row R W X Y g in let D : RattleType = HandData R W X Y g in let self = RefOf [] tt (plain (λ _. Row)) (λ _. tt) in
    let hs : Stays En.signature.params En.kept = (stay_dropped self yes, tt) in let c = clauses T U Q P g d 𝓛 𝓜.mem 𝓡.returns in
    proved 𝓛 En hs c 𝓜 𝓡 (Goes-dropped 𝓛 4 self yes (λ κs x f. refl), tt) (#self inst) fn (code.unfolded 𝓤 H 𝓜 𝓡 wired (T, (U, (Q, (P, tt)))) d)
    (λ κs. (shr_vals, tt)) (λ κs. (shr_Tells static [] Row, tt)) (λ κs qs bounds a gh are.
    let b : ℕ = a.0.ref_ptr.0 in let o : ℕ = a.0.ref_ptr.1 in let t : Row.Denot = a.0.now in let w : Ptr = t.words in let p : Ptr = t.slots in let z : TableId = t.table_id in
    let us : List Val = hand_of w p ∷ [] in let cv : Coded U.Denot = W.coded in let C : Fml = common R cv.code (g.holds t.key) w p z in
    let s : Two.Denot = record { words = w; slots = p; marker = record {}; table_id = z; key = t.key } in let u : Val = hand_of w p in
    let y : (walk_of 𝓛 En hs c).Ghost = ((κs, qs, bounds, a, (vptr b o ∷ [], tt)), gh) in let Post : Val → SProp 𝓤 = (walk_of 𝓛 En hs c).post y in
    qed 𝓛 ((raw (alive 𝓛 En.signature κs qs) ⊛ ‵ (owns (types_at En.signature.params κs) a y.0.4)) ∷ raw ((c κs a).requires gh) ∷ []) ∵
    split ! $ move ! (1 ∷ []) $ fsplit ! $ fsplit ! $ keep ! (1 ∷ 3 ∷ []) $
    enter ! 𝓣.C 𝓣.Λ fn (vptr b o ∷ []) Post $ alloc_all ! (λ l. pass_all ! refl ((tt, tt), tt) $ let Ev = env fn.locals l in
    use1 𝓛 (‵ (hidden_shr D [] (w, (p, (tt, tt))) b o) ⊛ ‵ (base.Fml.fhide (table.the_lent R W X Y g t (block_ptr b o) []))) (lent_out 𝓛 (table.struct R W X Y g) (table.the_codes T.Denot U.Denot Q.Denot P.Denot R.coded W.coded X.coded Y.coded (marker.the_row (Tuple (Y ∷ W ∷ X ∷ []))).coded) (table.the_heap R W X Y g) (table.the_lent R W X Y g) [] t b o) $
    split ! $ move ! (1 ∷ []) $ unhide ! $ fsplit ! $ move ! (1 ∷ []) $
    use1 𝓛 (given (Placed R w p z) (‵ C)) (fact_use 𝓤 _ (placed 𝓛 R cv (g.holds t.key) w p z) (guard_i 𝓤 (Placed R w p z) (sem 𝓛 C))) $ learn ! (λ at. move ! (2 ∷ []) $
    use0 𝓛 (‵ (flft [] full_share)) (𝓛.lfts.lft-nil full_share) $ move ! (1 ∷ []) $ let inside : InBlock p = subst InBlock (sym at.1) tt in
    sets ! (addr ! (through ! refl (stop !))) refl (tt, tt) $ sets ! (of_opd ! (get ! refl)) refl (tt, tt) $
    looks ! tt D (hand_opens R W X Y g 𝓛) (w, (p, (tt, tt))) b o (λ q' vs. move ! (1 ∷ []) $ peeks ! D (Is D) (shows 𝓛 D) (w, (p, (tt, tt))) vs (λ is-so. let ev : vs ≡ us = hand_told R W X Y g w p vs is-so in
    rewrite ! 1 (λ (ws : List Val). ‵ (cell_at q' D.mir ws b o)) ev refl $
    first ! $ blocks ! $ sets_last ! (of_opd ! (load ! (through ! refl (fld ! refl (stop !))) (look_in ! 1 (sub ! 0 refl (whole !))))) refl (Ptr-Good w at.0) $
    exec ! 𝓣.C 𝓣.Λ Ev (after 3 fn.body) (at_ret Ev Post) $ sets ! (of_opd ! (get ! refl)) refl (Ptr-Good w at.0) $
    first ! $ blocks ! $ sets_last ! (of_opd ! (load ! (through ! refl (fld ! refl (stop !))) (look_in ! 1 (sub ! 1 refl (whole !))))) refl (Ptr-Good p inside) $
    exec ! 𝓣.C 𝓣.Λ Ev (after 5 fn.body) (at_ret Ev Post) $ sets ! (of_opd ! (get ! refl)) refl (Ptr-Good p inside) $
    rewrite ! 1 (λ (ws : List Val). ‵ (cell_at q' D.mir ws b o)) (sym ev) refl $ move ! (1 ∷ 0 ∷ 2 ∷ []) $ shuts ! tt D q' (w, (p, (tt, tt))) vs b o $
    sets ! (agg ! (no_more !)) refl (tt, tt) $ sets ! (agg ! (and_then ! (get ! refl) (and_then ! (get ! refl) (and_then ! (get ! refl) (no_more !))))) refl (hand_good w p at.0 inside) $
    move ! (3 ∷ 2 ∷ []) $ fjoin ! $ use0 𝓛 (‵ (D.own_val (w, (p, (tt, tt))) us)) (hand_made R W X Y g 𝓛 w p) $ fjoin ! $ move ! (3 ∷ []) $ nothing ! $ nothing ! $ fjoin ! $
    let Told : Type 0 = (z ≡ z) × (t.key ≡ t.key) in use0 𝓛 (raw (fact 𝓤 Told)) (fact_i 𝓤 Told (emp 𝓤) (refl, refl)) $
    returns ! (look_at ! 0 refl) $ free_all ! refl $ keep ! (2 ∷ 1 ∷ 3 ∷ 0 ∷ []) $ by ! (leaves 𝓛 En hs c y u s (tt, tt) (tt, tt)))))))
