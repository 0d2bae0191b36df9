-- `into_loose` moves the pointer, and what it owns goes with it.
use mathlib.Core.Path.{◌≡◌, refl, sym, subst, ap, ◌∙◌}
use mathlib.Core.List.{List, [], ◌∷◌, ◌++◌}
use Prim.Native.Nat.{ℕ}
use lib.Dec.{lit<}
use mir.Raw.{raw as bare}
use seplogic.Ra.Ura.{Ura}
use mir.Val.{Val, vptr}
use base.Logic.{SProp, ent, id⊢, never, fst∗}
use base.Fml.{ftrue, fsep}
use prog.Memory.{Memory}
use prog.Routine.{Routine}
use prog.Wp.{WpFn, Tables}
use types.Logic.{Logic, sem}
use contract.Monad.{Fun, fact}
use contract.Running.{tables, tables_of}
use sound.WpLaws.{WpFn-mono}
use types.Kit.{Item, ‵, raw, ◌⊛◌, ◌$◌, ◌∵◌, !, qed, by, move, keep, drop, use1, join, split, fsplit, fjoin, rewrite, suffices, done}
use types.Part.{whole, sub, agg}
use types.Run.{stop, fld, no_more, and_then, of_opd, returns, enter}
use types.ByLocal.{alloc_all, pass_all, free_all, look_at, get, get_in, sets}
use denote.Exit.{yes}
use denote.RawPtr.{Ptr, block_ptr, null_ptr, ptr_val, in_a_block}
use denote.Signature.{type_at}
use denote.Steps.{nothing, heard}
use denote.Triple.Spec.{triple_of}
use denote.Triple.Table.{entered}
use denote.Triple.Walked.{says, Stays, stay_dropped, walk_of, ends_at, Goes-dropped, walk_Meets}
use Rattle.std.specs.Prelude.{Option, IsSome}
use Rattle.std_alloc.specs.Box.Ownership.{box_owns}
use Rattle.core.proofs.alloc.Calls.{token, handle_tells}
use Rattle.std_alloc.proofs.BoxSteps.Form.{D, R, τ, word, box_typed}
use Rattle.std_alloc.proofs.BoxSteps.Steps.{box_in}
use Rattle.c_table.proofs.Owned.{words, some_of, FromHeap}
use Rattle.c_records.proofs.Owned.{E, handle_out, FromHandle}
use Rattle.c_records.specs.Owned.{caller_owns, tag_of}
use Rattle.std_heap.specs.contracts.Global as Heap
use Rattle.c_records.specs.contracts.caller.Caller as Caller
use Rattle.c_records.specs.contracts.handle.Handle as Handle
use Rattle.c_records.specs.contracts.handle.Handle.into_loose as F
use Rattle.c_records.specs.contracts.handle.Handle.into_loose.Key.{name as #self}
use Rattle.c_records.proofs.handle.Handle.into_loose.Statement as stated
use Rattle.c_records.proofs.handle.Handle.into_loose.Code as code

abbrev stayed : Stays (F.ended).signature.params (F.ended).kept
stayed = (stay_dropped FromHandle yes, (stay_dropped FromHeap yes, tt))

module _ {M : Type 1} {𝓤 : Ura M} (𝓛 : Logic 𝓤) (at_mem : Memory → SProp 𝓤) (run : Routine → Fun 𝓤) (𝓣 : Tables 𝓤 𝓛.H) where
  open 𝓛 use {H}

  walk : (z : (walk_of 𝓛 F.ended stayed (F.clauses 𝓛 at_mem run)).Ghost)
      → ent 𝓤 ((walk_of 𝓛 F.ended stayed (F.clauses 𝓛 at_mem run)).pre z) (WpFn 𝓤 H 𝓣.C 𝓣.Λ code.function (z.0.4.0 ++ (z.0.4.1.0 ++ [])) ((walk_of 𝓛 F.ended stayed (F.clauses 𝓛 at_mem run)).post z))
  walk z =
      let Post = (walk_of 𝓛 F.ended stayed (F.clauses 𝓛 at_mem run)).post z in
      let d : Handle.the_row.Denot = z.0.3.0 in let a : Heap.the_row.Denot = z.0.3.1.0 in
      let To = type_at (F.signature).result tt in
      qed 𝓛 ((‵ ftrue ⊛ ‵ (fsep (Handle.the_row.own_val d z.0.4.0) (fsep (Heap.the_row.own_val a z.0.4.1.0) ftrue))) ∷ raw (fact 𝓤 (IsSome d.value)) ∷ []) ∵
      split ! $ drop ! $ move ! (1 ∷ []) $ heard ! _ (λ full. let x = some_of d.value full in let one : d.full ≡ 1 = d.tag ∙ ap tag_of x.1 in
      fsplit ! $ handle_out ! d z.0.4.0 (λ ws. rewrite ! 0 (λ (o : Option Caller.the_row.Denot). ‵ (caller_owns d.at o)) x.1 refl $
      in_a_block ! d.at (λ p. box_owns (token E.al a) (R E) p x.0) (fst∗ 𝓤 (never 𝓤) (sem 𝓛 (token E.al a (bare (τ E)) null_ptr))) (λ b o e.
      fsplit ! $ move ! (2 ∷ []) $ fsplit ! $ handle_tells E.al ! a z.0.4.1.0 (λ hv eh fa. move ! (2 ∷ 3 ∷ 0 ∷ []) $
      let v : D E = record { ptr = block_ptr b o; alloc = a; value = x.0 } in
      let made : To.Denot = record { at = block_ptr b o; alloc = a; value = x.0 } in
      let u = words (vptr b o) 1 in let w = word E hv b o in
      let is : z.0.4.0 ≡ u ∷ [] = ws ∙ ap (λ (p : Ptr). words (ptr_val p) d.full ∷ []) e ∙ ap (λ (n : ℕ). words (vptr b o) n ∷ []) one in
      let Γ : List (Item 𝓤) = ‵ (To.own_val made (w ∷ [])) ∷ [] in
      box_in E ! v b o x.0 refl refl $ use1 𝓛 (‵ (To.own_val made (w ∷ []))) (id⊢ 𝓤 _) $ keep ! (0 ∷ []) $
      by ! (subst (λ (us : List Val). ent 𝓤 (types.Kit.⋆ 𝓛 Γ) (WpFn 𝓤 H 𝓣.C 𝓣.Λ code.function us Post)) (sym (λ i. is i ++ (eh i ++ [])))
      (qed 𝓛 Γ ∵ enter ! 𝓣.C 𝓣.Λ code.function (u ∷ hv ∷ []) _ $ alloc_all ! (λ ls. pass_all ! refl ((tt, (tt, (record { fits = lit< tt }, tt))), (fa, tt)) $
      sets ! (of_opd ! (get_in ! (fld ! refl (stop !)) (sub ! 0 refl (whole !)))) refl (tt, tt) $ sets ! (of_opd ! (get ! refl)) refl (tt, tt) $
      sets ! (agg ! (and_then ! (get ! refl) (and_then ! (get ! refl) (no_more !)))) refl (box_typed E hv b o fa) $ returns ! (look_at ! 0 refl) $ free_all ! refl $
      suffices ! _ (ends_at 𝓛 F.ended stayed (F.clauses 𝓛 at_mem run) z w made (tt, (tt, tt)) (tt, (tt, tt))) $ says ! x.1 $
      nothing ! $ nothing ! $ fjoin ! $ nothing ! $ fjoin ! $ join ! $ nothing ! $ join ! $ done !)))))))

pub into_loose_spec : {M : Type 1} → stated.statement M
unfolding tables_of
into_loose_spec 𝓤 𝓛 𝓜 𝓡 wired =
    let 𝓣 : Tables 𝓤 𝓛.H = tables_of 𝓤 𝓛.H 𝓜 (tables 𝓤 𝓛.H 𝓜 𝓡 𝓡.env) in
    entered 𝓤 𝓛.H (triple_of 𝓛 F.signature (F.spec 𝓛 𝓜.mem 𝓡.returns)) 𝓣.C 𝓣.Λ #self code.function (code.unfolded 𝓤 𝓛.H 𝓜 𝓡 wired)
    (walk_Meets 𝓛 F.ended stayed (Goes-dropped 𝓛 0 FromHandle yes (λ κs x f. refl), (Goes-dropped 𝓛 0 FromHeap yes (λ κs x f. refl), tt)) (F.clauses 𝓛 𝓜.mem 𝓡.returns) (WpFn 𝓤 𝓛.H 𝓣.C 𝓣.Λ code.function) (WpFn-mono 𝓤 𝓛.H 𝓛.laws 𝓣 code.function)
    (walk 𝓛 𝓜.mem 𝓡.returns 𝓣))
