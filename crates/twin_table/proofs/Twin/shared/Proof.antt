-- `shared` reads the two addresses as the table's own handle.
use Rattle.atomic_table.proofs.Names.{◌≡◌, ℕ, List, [], ◌∷◌, refl, a_type, dcons, dnil, named, Val, vptr, inst_fn, SProp, Lft, Fml, ftrue, fsep, flft, ‵, raw, ◌⊛◌, at_ret, ◌$◌, ◌∵◌, !, qed, by, move, keep, drop, split, join, fsplit, fjoin, use0, use1, emp, fact_i, feq_i, stop, of_opd, addr, first, blocks, exec, returns, enter, alloc_all, pass_all, free_all, look_at, get, through, sets, sets_last, env, tables, yes, RattleType, owns, types_at, plain, nothing, param, bounded, Stays, stay_dropped, walk_of, Goes-dropped, fact, id⊢, RefOf, shr_vals, shr_Tells, hidden_shr}
use Rattle.atomic_table.proofs.Walks.{proved, leaves}
use Rattle.std_alloc.proofs.VecSteps.Shapes.{after}
use Rattle.atomic_table.specs.contracts.shared.Shared as table
use Rattle.twin_table.specs.contracts.Twin as twin
use Rattle.twin_table.specs.contracts.Twin.shared.{ended, clauses}
use Rattle.twin_table.specs.contracts.Twin.shared.Key.{name as #self}
use Rattle.twin_table.proofs.Twin.shared.Statement.{statement}
use Rattle.twin_table.proofs.Twin.shared.Code as code

pub shared_spec : {M : Type 1} → statement M
shared_spec 𝓤 𝓛 𝓜 𝓡 wired T U Q P _ _ _ _ g d _ =
    let H = 𝓛.H in let 𝓣 = tables 𝓤 H 𝓜 𝓡 𝓡.env in let R : RattleType = param 0 T in let W : RattleType = param 1 U in let X : RattleType = param 2 Q in let Y : RattleType = param 3 P in let En = ended T U Q P g d in
    let inst = bounded (a_type ∷ a_type ∷ a_type ∷ a_type ∷ []) (T, (U, (Q, (P, tt)))) (dcons d dnil) in let fn = inst_fn inst code.function in
    let Row : RattleType = table.the_row R W X Y g in let Two : RattleType = twin.the_row R W X Y g in let self = RefOf (0 ∷ []) tt (plain (λ _. Two)) (λ _. tt) in
    let hs : Stays En.signature.params En.kept = (stay_dropped self yes, tt) in let c = clauses T U Q P g d 𝓛 𝓜.mem 𝓡.returns in
    proved 𝓛 En hs c 𝓜 𝓡 (Goes-dropped 𝓛 5 self yes (λ κs x f. refl), tt) (#self inst) fn (code.unfolded 𝓤 H 𝓜 𝓡 wired (T, (U, (Q, (P, tt)))) d)
    (λ κs. (shr_vals, tt)) (λ κs. (shr_Tells (named 0) κs.0 Two, tt)) (λ κs qs bounds a gh are.
    let b : ℕ = a.0.ref_ptr.0 in let o : ℕ = a.0.ref_ptr.1 in let κ : Lft = κs.0 in let t : Two.Denot = a.0.now in
    let s : Row.Denot = record { words = t.words; slots = t.slots; marker = record {}; table_id = t.table_id; key = t.key } in
    let y : (walk_of 𝓛 En hs c).Ghost = ((κs, qs, bounds, a, (vptr b o ∷ [], tt)), gh) in let Post : Val → SProp 𝓤 = (walk_of 𝓛 En hs c).post y in
    let others : Fml = fsep (flft κs.1.0 qs.1.0) (fsep (flft κs.1.1.0 qs.1.1.0) (fsep (flft κs.1.1.1.0 qs.1.1.1.0) (fsep (flft κs.1.1.1.1.0 qs.1.1.1.1.0) ftrue))) in let u : Val = vptr b o in
    qed 𝓛 (((‵ (flft κs.0 qs.0) ⊛ ‵ others) ⊛ ‵ (owns (types_at En.signature.params κs) a y.0.4)) ∷ raw ((c κs a).requires gh) ∷ []) ∵
    move ! (1 ∷ []) $ drop ! $ split ! $ split ! $ move ! (2 ∷ []) $ fsplit ! $ fsplit ! $ keep ! (1 ∷ 3 ∷ 4 ∷ []) $
    use1 𝓛 (‵ (hidden_shr Row κ s b o)) (id⊢ 𝓤 _) $
    enter ! 𝓣.C 𝓣.Λ fn (vptr b o ∷ []) Post $ alloc_all ! (λ l. pass_all ! refl ((tt, tt), tt) $ let Ev = env fn.locals l in
    sets ! (addr ! (through ! refl (stop !))) refl (tt, tt) $ sets ! (of_opd ! (get ! refl)) refl (tt, tt) $
    first ! $ blocks ! $ sets_last ! (addr ! (through ! refl (stop !))) refl (tt, tt) $
    exec ! 𝓣.C 𝓣.Λ Ev (after 3 fn.body) (at_ret Ev Post) $ sets ! (of_opd ! (get ! refl)) refl (tt, tt) $
    feq_i ! (List Val) (u ∷ []) (u ∷ []) refl $ fjoin ! $ move ! (1 ∷ 2 ∷ []) $ join ! $ nothing ! $ nothing ! $ fjoin ! $
    let Told : Type 0 = (s.table_id ≡ t.table_id) × (s.key ≡ t.key) in
    use0 𝓛 (raw (fact 𝓤 Told)) (fact_i 𝓤 Told (emp 𝓤) (refl, refl)) $
    returns ! (look_at ! 0 refl) $ free_all ! refl $ keep ! (2 ∷ 1 ∷ 3 ∷ 0 ∷ []) $ by ! (leaves 𝓛 En hs c y u (record { ref_ptr = (b, o); now = s }) (tt, tt) (tt, tt))))
