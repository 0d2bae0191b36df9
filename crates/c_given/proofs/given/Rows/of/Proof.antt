-- `of` keeps the two addresses of a table that lies for good.
use mathlib.Core.Path.{◌≡◌, refl, sym, subst}
use mathlib.Core.List.{List, [], ◌∷◌, ◌++◌}
use seplogic.Ra.Ura.{Ura}
use mir.Val.{Val}
use base.Logic.{SProp, ent, emp, fst∗}
use base.Fml.{ftrue, fsep}
use prog.Memory.{Memory}
use prog.Routine.{Routine}
use prog.Wp.{WpFn, Tables}
use types.Logic.{Logic, sem}
use contract.Monad.{Fun, fact_use}
use contract.Running.{tables, tables_of}
use sound.WpLaws.{WpFn-mono}
use types.Kit.{Item, ‵, raw, ◌⊛◌, given, ◌$◌, ◌∵◌, !, qed, by, keep, drop, join, split, fsplit, fjoin, use1, learn, suffices, done}
use base.Logic.{guard_i}
use types.Part.{whole, sub, agg}
use types.Run.{stop, fld, no_more, and_then, of_opd, returns, enter}
use types.ByLocal.{alloc_all, pass_all, free_all, look_at, get, get_in, sets}
use denote.Builtin.{u64}
use denote.Exit.{yes}
use denote.RawPtr.{Ptr, InBlock}
use denote.Steps.{nothing}
use denote.Triple.Spec.{triple_of}
use denote.Triple.Table.{entered}
use denote.Triple.Walked.{says, Stays, stay_dropped, walk_of, ends_at, Goes-dropped, walk_Meets}
use Rattle.std.specs.Prelude.{Some}
use Rattle.atomic_table.specs.Seated.{Placed, common, table_shares}
use Rattle.atomic_table.proofs.Fields.{hand_of, hand_good, Ptr-Good}
use Rattle.region_rule.specs.Places.{Ruled}
use Rattle.region_rule.specs.contracts.rule.Known as Known
use Rattle.c_given.proofs.Sites.{Two, both, FromTwin, twin_out, rows_in, lies_in_blocks, both_good}
use Rattle.c_given.specs.Owned.{words_lie}
use Rattle.c_given.specs.contracts.given.Rows as Rows
use Rattle.c_given.specs.contracts.given.Rows.of as F
use Rattle.c_given.specs.contracts.given.Rows.of.Key.{name as #self}
use Rattle.c_given.proofs.given.Rows.of.Statement as stated
use Rattle.c_given.proofs.given.Rows.of.Code as code

abbrev stayed : Stays (F.ended).signature.params (F.ended).kept
stayed = (stay_dropped FromTwin yes, tt)

module _ {M : Type 1} {𝓤 : Ura M} (𝓛 : Logic 𝓤) (at_mem : Memory → SProp 𝓤) (run : Routine → Fun 𝓤) (𝓣 : Tables 𝓤 𝓛.H) where
  open 𝓛 use {H}

  walk : (z : (walk_of 𝓛 F.ended stayed (F.clauses 𝓛 at_mem run)).Ghost)
      → ent 𝓤 ((walk_of 𝓛 F.ended stayed (F.clauses 𝓛 at_mem run)).pre z) (WpFn 𝓤 H 𝓣.C 𝓣.Λ code.function (z.0.4.0 ++ []) ((walk_of 𝓛 F.ended stayed (F.clauses 𝓛 at_mem run)).post z))
  walk z =
      let Post = (walk_of 𝓛 F.ended stayed (F.clauses 𝓛 at_mem run)).post z in
      let d : Two.Denot = z.0.3.0 in let made : Rows.the_row.Denot = record { words = d.words; slots = d.slots; table = Some (d.table_id, d.key) } in
      let u = hand_of d.words d.slots in let v = both d.words d.slots in
      qed 𝓛 ((‵ ftrue ⊛ ‵ (fsep (Two.own_val d z.0.4.0) ftrue)) ∷ raw (emp 𝓤) ∷ []) ∵ split ! $ drop ! $ fsplit ! $
      twin_out ! d z.0.4.0 (λ ws. keep ! (0 ∷ []) $
      use1 𝓛 (given (InBlock d.words × InBlock d.slots) (‵ (words_lie d.words d.slots made.table))) (lies_in_blocks 𝓛 d.words d.slots (d.table_id, d.key)) $ learn ! (λ at.
      let Γ : List (Item 𝓤) = ‵ (words_lie d.words d.slots made.table) ∷ [] in
      by ! (subst (λ (us : List Val). ent 𝓤 (types.Kit.⋆ 𝓛 Γ) (WpFn 𝓤 H 𝓣.C 𝓣.Λ code.function (us ++ []) Post)) (sym ws)
      (qed 𝓛 Γ ∵ enter ! 𝓣.C 𝓣.Λ code.function (u ∷ []) _ $ alloc_all ! (λ ls. pass_all ! refl (hand_good d.words d.slots at.0 at.1, tt) $
      sets ! (of_opd ! (get_in ! (fld ! refl (stop !)) (sub ! 0 refl (whole !)))) refl (Ptr-Good d.words at.0) $
      sets ! (of_opd ! (get_in ! (fld ! refl (stop !)) (sub ! 1 refl (whole !)))) refl (Ptr-Good d.slots at.1) $
      sets ! (agg ! (and_then ! (get ! refl) (and_then ! (get ! refl) (no_more !)))) refl (both_good d.words d.slots at.0 at.1) $
      rows_in ! made $ returns ! (look_at ! 0 refl) $ free_all ! refl $
      suffices ! _ (ends_at 𝓛 F.ended stayed (F.clauses 𝓛 at_mem run) z v made (tt, tt) (tt, tt)) $ says ! refl $
      nothing ! $ nothing ! $ fjoin ! $ join ! $ nothing ! $ join ! $ done !)))))

pub of_spec : {M : Type 1} → stated.statement M
unfolding tables_of
of_spec 𝓤 𝓛 𝓜 𝓡 wired =
    let 𝓣 : Tables 𝓤 𝓛.H = tables_of 𝓤 𝓛.H 𝓜 (tables 𝓤 𝓛.H 𝓜 𝓡 𝓡.env) in
    entered 𝓤 𝓛.H (triple_of 𝓛 F.signature (F.spec 𝓛 𝓜.mem 𝓡.returns)) 𝓣.C 𝓣.Λ #self code.function (code.unfolded 𝓤 𝓛.H 𝓜 𝓡 wired)
    (walk_Meets 𝓛 F.ended stayed (Goes-dropped 𝓛 0 FromTwin yes (λ κs x f. refl), tt) (F.clauses 𝓛 𝓜.mem 𝓡.returns) (WpFn 𝓤 𝓛.H 𝓣.C 𝓣.Λ code.function) (WpFn-mono 𝓤 𝓛.H 𝓛.laws 𝓣 code.function)
    (walk 𝓛 𝓜.mem 𝓡.returns 𝓣))
