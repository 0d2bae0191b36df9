-- `put` writes the head into the room that the memory has, and lends it for good.
use mathlib.Core.Path.{◌≡◌, refl, sym, subst, ap, ◌∙◌}
use mathlib.Core.List.{List, [], ◌∷◌, ◌++◌}
use Prim.Native.Nat.{ℕ, ◌≤◌}
use lib.Dec.{lit≤}
use seplogic.Ra.Ura.{Ura}
use base.Fraction.{full_share}
use mir.Val.{Val, vptr}
use base.Logic.{SProp, ent, sep, wand, id⊢, never, via, fst∗}
use base.Fml.{Incl-refl, ftrue, fsep, froom, flft}
use prog.Memory.{Memory}
use prog.Routine.{Routine}
use prog.Wp.{Env, WpFn, Tables}
use types.Logic.{Logic, sem, lfts}
use contract.Monad.{Fun, fact}
use contract.Running.{tables, tables_of}
use sound.WpLaws.{WpFn-mono}
use types.Kit.{Item, ‵, raw, ◌⊛◌, later, at_ret, ◌$◌, ◌∵◌, !, qed, by, move, keep, drop, use0, use1, use2, await, join, split, fsplit, fjoin, suffices, done}
use types.Tokens.{bor_new}
use types.Part.{whole, sub, agg}
use types.Run.{init, stop, fld, of_opd, no_more, and_then, assigns_last, first, blocks, exec, returns, enter}
use types.ByLocal.{alloc_all, pass_all, free_all, look_at, get, get_in, through, sets, env}
use denote.Exit.{yes}
use denote.Memory.{part_at}
use denote.RawPtr.{Ptr, block_ptr, ptr_val, in_a_block}
use denote.Steps.{nothing, heard}
use denote.Struct.Lending.{lent_at, Lends-lies}
use denote.Triple.Spec.{triple_of}
use denote.Triple.Table.{entered}
use denote.Triple.Walked.{says, Stays, stay_dropped, walk_of, ends_at, Goes-dropped, walk_Meets}
use Rattle.std.specs.Prelude.{Some}
use Rattle.std_alloc.proofs.BoxSteps.Form.{τ, own, R}
use Rattle.std_alloc.proofs.BoxSteps.Steps.{el_in, el_tells}
use Rattle.std_alloc.proofs.VecSteps.Shapes.{after}
use Rattle.linked_list_allocator.proofs.Nodes.{retypes, fewer}
use Rattle.given_heap.specs.Owned.{bytes_at, units_of}
use Rattle.given_heap.proofs.Sites.{pair, given_out, FromGiven}
use Rattle.c_given.proofs.Sites.{Q, word, site_in, FromHead}
use Rattle.c_given.specs.contracts.head.Head as Head
use Rattle.given_heap.specs.contracts.Given as Given
use Rattle.c_given.specs.contracts.given.Site as Site
use Rattle.c_given.specs.contracts.given.Site.put as F
use Rattle.c_given.specs.contracts.given.Site.put.Key.{name as #self}
use Rattle.c_given.proofs.given.Site.put.Statement as stated
use Rattle.c_given.proofs.given.Site.put.Code as code

abbrev stayed : Stays (F.ended).signature.params (F.ended).kept
stayed = (stay_dropped FromGiven yes, (stay_dropped FromHead yes, tt))

module _ {M : Type 1} {𝓤 : Ura M} (𝓛 : Logic 𝓤) (at_mem : Memory → SProp 𝓤) (run : Routine → Fun 𝓤) (𝓣 : Tables 𝓤 𝓛.H) where
  open 𝓛 use {H}

  -- the memory has room for the head
  room : (b o n : ℕ) → 1024 ≤ n → ent 𝓤 (sem 𝓛 (bytes_at (block_ptr b o) n)) (H.room (τ Q) b o)
  room b o n large =
      via 𝓤 (H.room (units_of 1024) b o) (fewer 𝓛 b o 1024 n refl large)
      (via 𝓤 (sep 𝓤 (H.room (τ Q) b o) (wand 𝓤 (H.room (τ Q) b o) (H.room (units_of 1024) b o))) (retypes 𝓛 b (τ Q) o 1024 refl (lit≤ tt) tt)
      (fst∗ 𝓤 (H.room (τ Q) b o) (wand 𝓤 (H.room (τ Q) b o) (H.room (units_of 1024) b o))))

  walk : (z : (walk_of 𝓛 F.ended stayed (F.clauses 𝓛 at_mem run)).Ghost)
      → ent 𝓤 ((walk_of 𝓛 F.ended stayed (F.clauses 𝓛 at_mem run)).pre z) (WpFn 𝓤 H 𝓣.C 𝓣.Λ code.function (z.0.4.0 ++ (z.0.4.1.0 ++ [])) ((walk_of 𝓛 F.ended stayed (F.clauses 𝓛 at_mem run)).post z))
  walk z =
      let Post = (walk_of 𝓛 F.ended stayed (F.clauses 𝓛 at_mem run)).post z in
      let d : Given.the_row.Denot = z.0.3.0 in let x : Head.the_row.Denot = z.0.3.1.0 in
      qed 𝓛 ((‵ ftrue ⊛ ‵ (fsep (Given.the_row.own_val d z.0.4.0) (fsep (Head.the_row.own_val x z.0.4.1.0) ftrue))) ∷ raw (fact 𝓤 (1024 ≤ d.size)) ∷ []) ∵
      split ! $ drop ! $ move ! (1 ∷ []) $ heard ! _ (λ large.
      fsplit ! $ given_out ! d z.0.4.0 (λ ws low. in_a_block ! d.at (λ p. bytes_at p d.size) (id⊢ 𝓤 (never 𝓤)) (λ b o e.
      move ! (1 ∷ []) $ fsplit ! $ el_tells Q ! x z.0.4.1.0 (λ v ev t. keep ! (2 ∷ 0 ∷ []) $
      use1 𝓛 (raw (H.room (τ Q) b o)) (room b o d.size large) $
      let made : Site.the_row.Denot = record { at = block_ptr b o; queue = Some x } in
      let u = pair (vptr b o) d.size in let w = word (vptr b o) in
      let is : z.0.4.0 ≡ u ∷ [] = ws ∙ ap (λ (p : Ptr). pair (ptr_val p) d.size ∷ []) e in
      let Γ : List (Item 𝓤) = ‵ (froom (τ Q) b o) ∷ ‵ (own Q x (v ∷ [])) ∷ [] in
      by ! (subst (λ (us : List Val). ent 𝓤 (types.Kit.⋆ 𝓛 Γ) (WpFn 𝓤 H 𝓣.C 𝓣.Λ code.function us Post)) (sym (λ i. is i ++ (ev i ++ [])))
      (qed 𝓛 Γ ∵ enter ! 𝓣.C 𝓣.Λ code.function (u ∷ v ∷ []) _ $ alloc_all ! (λ ls. pass_all ! refl ((tt, (tt, (record { fits = low }, tt))), (t, tt)) $
      let En : Env 𝓤 H = env code.function.locals ls in
      sets ! (of_opd ! (get_in ! (fld ! refl (stop !)) (sub ! 0 refl (whole !)))) refl (tt, tt) $ sets ! (of_opd ! (get ! refl)) refl (tt, tt) $
      first ! $ blocks ! $ sets ! (of_opd ! (get ! refl)) refl t $ assigns_last ! (of_opd ! (get ! refl)) (through ! refl (stop !)) (init ! 0 refl t) $
      exec ! 𝓣.C 𝓣.Λ En (after 3 code.function.body) (at_ret En Post) $
      use2 𝓛 (‵ (part_at (R Q) full_share x b o)) (el_in Q 𝓛 x b o v) $
      bor_new ! tt [] $ move ! (1 ∷ []) $ drop ! $ use0 𝓛 (‵ (flft [] full_share)) (𝓛.lfts.lft-nil full_share) $ move ! (1 ∷ 0 ∷ []) $
      use2 𝓛 (later (‵ (lent_at Head.the_row (block_ptr b o) x []) ⊛ raw (lfts 𝓛 (([], full_share) ∷ []))))
      (Lends-lies 𝓛 Head.the_row [] (block_ptr b o) x (Q.laws.shares 𝓛 x) [] (([], full_share) ∷ []) (Incl-refl []) (Incl-refl [])) $ await ! tt $ split ! $
      move ! (1 ∷ []) $ drop ! $ site_in ! made $
      sets ! (agg ! (and_then ! (get ! refl) (no_more !))) refl (tt, (tt, tt)) $
      returns ! (look_at ! 0 refl) $ free_all ! refl $
      suffices ! _ (ends_at 𝓛 F.ended stayed (F.clauses 𝓛 at_mem run) z w made (tt, (tt, tt)) (tt, (tt, tt))) $ says ! (sym e, refl) $
      nothing ! $ nothing ! $ fjoin ! $ nothing ! $ fjoin ! $ join ! $ nothing ! $ join ! $ done !)))))))

pub put_spec : {M : Type 1} → stated.statement M
unfolding tables_of
put_spec 𝓤 𝓛 𝓜 𝓡 wired =
    let 𝓣 : Tables 𝓤 𝓛.H = tables_of 𝓤 𝓛.H 𝓜 (tables 𝓤 𝓛.H 𝓜 𝓡 𝓡.env) in
    entered 𝓤 𝓛.H (triple_of 𝓛 F.signature (F.spec 𝓛 𝓜.mem 𝓡.returns)) 𝓣.C 𝓣.Λ #self code.function (code.unfolded 𝓤 𝓛.H 𝓜 𝓡 wired)
    (walk_Meets 𝓛 F.ended stayed (Goes-dropped 𝓛 0 FromGiven yes (λ κs x f. refl), (Goes-dropped 𝓛 0 FromHead yes (λ κs x f. refl), tt)) (F.clauses 𝓛 𝓜.mem 𝓡.returns) (WpFn 𝓤 𝓛.H 𝓣.C 𝓣.Λ code.function) (WpFn-mono 𝓤 𝓛.H 𝓛.laws 𝓣 code.function)
    (walk 𝓛 𝓜.mem 𝓡.returns 𝓣))
