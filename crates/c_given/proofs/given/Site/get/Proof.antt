-- `get` follows the address to the head, which is lent for good.
use mathlib.Core.Path.{◌≡◌, refl, sym, subst, ap, ◌∙◌}
use mathlib.Core.List.{List, [], ◌∷◌, ◌++◌}
use seplogic.Ra.Ura.{Ura}
use mir.Val.{Val, vptr}
use base.Logic.{SProp, ent, id⊢, never, fst∗}
use base.Fml.{ftrue, fsep}
use prog.Memory.{Memory}
use prog.Routine.{Routine}
use prog.Wp.{Env, WpFn, Tables}
use types.Logic.{Logic, sem}
use contract.Monad.{Fun, fact}
use contract.Running.{tables, tables_of}
use sound.WpLaws.{WpFn-mono}
use types.Kit.{Item, ‵, raw, ◌⊛◌, at_ret, ◌$◌, ◌∵◌, !, qed, by, move, keep, drop, use1, join, split, fsplit, fjoin, feq_i, rewrite, suffices, done}
use types.Part.{whole, sub}
use types.Run.{stop, fld, of_opd, addr, first, blocks, exec, returns, enter}
use types.ByLocal.{alloc_all, pass_all, free_all, look_at, get, get_in, through, sets, sets_last, env}
use denote.Exit.{yes}
use denote.Memory.{shared_of}
use denote.Opens.{hide}
use denote.RawPtr.{Ptr, ptr_val, in_a_block}
use denote.Signature.{type_at}
use denote.Steps.{nothing, heard}
use denote.Struct.Lending.{lent_at}
use denote.Triple.Spec.{triple_of}
use denote.Triple.Table.{entered}
use denote.Triple.Walked.{says, Stays, stay_dropped, walk_of, ends_at, Goes-dropped, walk_Meets}
use Rattle.std.specs.Prelude.{Option, IsSome}
use Rattle.std_alloc.proofs.VecSteps.Shapes.{after}
use Rattle.c_queue.proofs.Owned.{some_of}
use Rattle.c_given.proofs.Sites.{word, site_out, FromSite}
use Rattle.c_given.specs.Owned.{lies_for_good}
use Rattle.c_given.specs.contracts.head.Head as Head
use Rattle.c_given.specs.contracts.given.Site as Site
use Rattle.c_given.specs.contracts.given.Site.get as F
use Rattle.c_given.specs.contracts.given.Site.get.Key.{name as #self}
use Rattle.c_given.proofs.given.Site.get.Statement as stated
use Rattle.c_given.proofs.given.Site.get.Code as code

abbrev stayed : Stays (F.ended).signature.params (F.ended).kept
stayed = (stay_dropped FromSite yes, tt)

module _ {M : Type 1} {𝓤 : Ura M} (𝓛 : Logic 𝓤) (at_mem : Memory → SProp 𝓤) (run : Routine → Fun 𝓤) (𝓣 : Tables 𝓤 𝓛.H) where
  open 𝓛 use {H}

  walk : (z : (walk_of 𝓛 F.ended stayed (F.clauses 𝓛 at_mem run)).Ghost)
      → ent 𝓤 ((walk_of 𝓛 F.ended stayed (F.clauses 𝓛 at_mem run)).pre z) (WpFn 𝓤 H 𝓣.C 𝓣.Λ code.function (z.0.4.0 ++ []) ((walk_of 𝓛 F.ended stayed (F.clauses 𝓛 at_mem run)).post z))
  walk z =
      let Post = (walk_of 𝓛 F.ended stayed (F.clauses 𝓛 at_mem run)).post z in
      let d : Site.the_row.Denot = z.0.3.0 in
      let To = type_at (F.signature).result tt in
      qed 𝓛 ((‵ ftrue ⊛ ‵ (fsep (Site.the_row.own_val d z.0.4.0) ftrue)) ∷ raw (fact 𝓤 (IsSome d.queue)) ∷ []) ∵
      split ! $ drop ! $ move ! (1 ∷ []) $ heard ! _ (λ full. let x = some_of d.queue full in
      fsplit ! $ site_out ! d z.0.4.0 (λ ws. rewrite ! 0 (λ (o : Option Head.the_row.Denot). ‵ (lies_for_good d.at o)) x.1 refl $
      in_a_block ! d.at (λ p. lent_at Head.the_row p x.0 []) (fst∗ 𝓤 (never 𝓤) (sem 𝓛 (shared_of Head.the_row x.0 0 0 []))) (λ b o e.
      fsplit ! $ drop ! $
      let made : To.Denot = record { ref_ptr = (b, o); now = x.0 } in
      let u = word (vptr b o) in let v : Val = vptr b o in
      let is : z.0.4.0 ≡ u ∷ [] = ws ∙ ap (λ (p : Ptr). word (ptr_val p) ∷ []) e in
      let Γ : List (Item 𝓤) = ‵ (To.own_val made (v ∷ [])) ∷ [] in
      hide ! $ feq_i ! (List Val) (v ∷ []) (v ∷ []) refl $ fjoin ! $ use1 𝓛 (‵ (To.own_val made (v ∷ []))) (id⊢ 𝓤 _) $ keep ! (0 ∷ []) $
      by ! (subst (λ (us : List Val). ent 𝓤 (types.Kit.⋆ 𝓛 Γ) (WpFn 𝓤 H 𝓣.C 𝓣.Λ code.function (us ++ []) Post)) (sym is)
      (qed 𝓛 Γ ∵ enter ! 𝓣.C 𝓣.Λ code.function (u ∷ []) _ $ alloc_all ! (λ ls. pass_all ! refl ((tt, (tt, tt)), tt) $
      let En : Env 𝓤 H = env code.function.locals ls in
      sets ! (of_opd ! (get_in ! (fld ! refl (stop !)) (sub ! 0 refl (whole !)))) refl (tt, tt) $ sets ! (of_opd ! (get ! refl)) refl (tt, tt) $
      first ! $ blocks ! $ sets_last ! (addr ! (through ! refl (stop !))) refl (tt, tt) $
      exec ! 𝓣.C 𝓣.Λ En (after 3 code.function.body) (at_ret En Post) $ sets ! (of_opd ! (get ! refl)) refl (tt, tt) $
      returns ! (look_at ! 0 refl) $ free_all ! refl $
      suffices ! _ (ends_at 𝓛 F.ended stayed (F.clauses 𝓛 at_mem run) z v made (tt, tt) (tt, tt)) $ says ! x.1 $
      nothing ! $ nothing ! $ fjoin ! $ join ! $ nothing ! $ join ! $ done !))))))

pub get_spec : {M : Type 1} → stated.statement M
unfolding tables_of
get_spec 𝓤 𝓛 𝓜 𝓡 wired =
    let 𝓣 : Tables 𝓤 𝓛.H = tables_of 𝓤 𝓛.H 𝓜 (tables 𝓤 𝓛.H 𝓜 𝓡 𝓡.env) in
    entered 𝓤 𝓛.H (triple_of 𝓛 F.signature (F.spec 𝓛 𝓜.mem 𝓡.returns)) 𝓣.C 𝓣.Λ #self code.function (code.unfolded 𝓤 𝓛.H 𝓜 𝓡 wired)
    (walk_Meets 𝓛 F.ended stayed (Goes-dropped 𝓛 0 FromSite yes (λ κs x f. refl), tt) (F.clauses 𝓛 𝓜.mem 𝓡.returns) (WpFn 𝓤 𝓛.H 𝓣.C 𝓣.Λ code.function) (WpFn-mono 𝓤 𝓛.H 𝓛.laws 𝓣 code.function)
    (walk 𝓛 𝓜.mem 𝓡.returns 𝓣))
