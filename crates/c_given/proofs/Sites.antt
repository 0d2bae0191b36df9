-- The machine values of a site, a rows and a table's twin, and the head as a box's machinery sees it. Assumes `Logic`.
use mathlib.Core.Path.{◌≡◌, refl, sym, subst}
use mathlib.Core.List.{List, [], ◌∷◌, ◌++◌}
use Prim.Native.Nat.{ℕ}
use mir.Syntax.{impl, tnil, tcons, dnil, ty_ptr, ty_struct}
use mir.Val.{Val, vstruct, vcons, vnil, of_list, has_ty, WT}
use base.Fml.{Fml}
use base.Logic.{ent, guard, guard_i}
use lib.Dec.{T}
use contract.Monad.{fact_use}
use types.Kit.{Item, Goal, Seq, Step, step, ‵, ◌$◌, ◌∵◌, !, qed, given, learn, check, move, done, drop, fsplit, fjoin, fpick, fpack, feq_i, feq_l, use0, use1}
use denote.RattleType.{RattleType, Valss}
use denote.Builtin.{RawPtr, u64, usize}
use denote.Laws.{Is, shows}
use denote.RawPtr.{Ptr, ptr_val, block_ptr, null_ptr, InBlock}
use denote.Signature.{Slot, plain}
use denote.Steps.{nothing, facts}
use denote.Struct.Struct.{within}
use denote.Struct.Owning.{shape}
use seplogic.Ra.Ura.{Ura}
use types.Logic.{Logic, sem}
use Rattle.std.specs.Prelude.{Some, None, replicate}
use Rattle.atomic_table.specs.Seated.{TableId, Placed, common, lasts}
use Rattle.atomic_table.specs.declared.shared.TableRule.{Ghosts}
use Rattle.atomic_table.proofs.Moves.{placed}
use Rattle.atomic_table.proofs.Fields.{hand_of, HandData, hand_told, hand_made}
use Rattle.std_alloc.proofs.BoxSteps.Form.{Bx}
use Rattle.std_heap.specs.contracts.Global as Heap
use Rattle.std_heap.specs.contracts.GlobalAllocator.TheImpl.{ghosts, dict}
use Rattle.std_heap.proofs.Global.TheLaws as heap
use Rattle.word_map.specs.WordMap.{numbered}
use Rattle.region_rule.specs.View.{Own}
use Rattle.region_rule.specs.Places.{idle, Ruled}
use Rattle.region_rule.specs.contracts.rule.Known as Known
use Rattle.region_rule.specs.contracts.rule.RegionRule as RegionRule
use Rattle.twin_table.specs.contracts.Twin as Twin
use Rattle.c_given.specs.contracts.head.Head as Head
use Rattle.c_given.proofs.head.Head.TheLaws as head
use Rattle.c_given.specs.Owned.{lies_for_good, words_lie}
use Rattle.c_given.specs.contracts.given.Site as Site
use Rattle.c_given.specs.contracts.given.Rows as Rows

-- the head as an element
abbrev pub Q : Bx
Q = record { row = Head.the_row; laws = head.the_row_laws; al = record { row = Heap.the_row; laws = heap.the_row_laws; g = ghosts; d = dict; drops = impl [] tnil dnil } }

abbrev pub FromSite : Slot 0
FromSite = plain (λ _. Site.the_row)

abbrev pub FromHead : Slot 0
FromHead = plain (λ _. Head.the_row)

abbrev pub FromRows : Slot 0
FromRows = plain (λ _. Rows.the_row)

-- the rule of a region, and the twin of its table
abbrev rule : Ghosts RegionRule.the_row.Denot u64.Denot Known.the_row.Denot usize.Denot
rule = record { holds = λ count s. Ruled count s; first = λ count. idle (Own (numbered 0 (replicate count 0)) None) }

abbrev pub Two : RattleType
Two = Twin.the_row u64 Known.the_row usize RegionRule.the_row rule

abbrev pub FromTwin : Slot 0
FromTwin = plain (λ _. Two)

abbrev Hand : RattleType
Hand = HandData u64 Known.the_row usize RegionRule.the_row rule

-- the word of a site, and the two of a rows
abbrev pub word : Val → Val
word p = vstruct (vcons p vnil)

abbrev pub both : Ptr → Ptr → Val
both w p = vstruct (vcons (ptr_val w) (vcons (ptr_val p) vnil))

module _ {M : Type 1} {𝓤 : Ura M} {𝓛 : Logic 𝓤} {K : Type 0} {Γ : List (Item 𝓤)} {G : Goal 𝓤 𝓛.H} where
  pub site_in : K → (d : Site.the_row.Denot) → Step K 𝓛 (‵ (Site.the_row.own_val d (word (ptr_val d.at) ∷ [])) ∷ Γ) G (‵ (lies_for_good d.at d.queue) ∷ Γ) G
  site_in t d = step (λ s. let w : Val = word (ptr_val d.at) in
      nothing t $ feq_i t (List Val) (ptr_val d.at ∷ []) (ptr_val d.at ∷ []) refl $ fjoin t $ feq_i t (List Val) (w ∷ []) (w ∷ []) refl $ fjoin t $
      fpack t (Valss (RawPtr ∷ [])) (within (shape Site.the_type) (d.at, tt) (w ∷ [])) (ptr_val d.at ∷ [], tt) $ fjoin t $ s)

  pub site_out : K → (d : Site.the_row.Denot) (vs : List Val) → (vs ≡ word (ptr_val d.at) ∷ [] → Seq K 𝓛 (‵ (lies_for_good d.at d.queue) ∷ Γ) G) → Seq K 𝓛 (‵ (Site.the_row.own_val d vs) ∷ Γ) G
  site_out t d vs k =
      fsplit t $ fpick t (λ vss. fsplit t $ feq_l t (λ ev. fsplit t $ feq_l t (λ ep. drop t $ k
      (subst (λ (ps : List Val). vs ≡ vstruct (of_list (ps ++ [])) ∷ []) ep ev))))

  pub rows_in : K → (d : Rows.the_row.Denot) → Step K 𝓛 (‵ (Rows.the_row.own_val d (both d.words d.slots ∷ [])) ∷ Γ) G (‵ (words_lie d.words d.slots d.table) ∷ Γ) G
  rows_in t d = step (λ s. let w : Val = both d.words d.slots in
      nothing t $ feq_i t (List Val) (ptr_val d.slots ∷ []) (ptr_val d.slots ∷ []) refl $ fjoin t $ feq_i t (List Val) (ptr_val d.words ∷ []) (ptr_val d.words ∷ []) refl $ fjoin t $ feq_i t (List Val) (w ∷ []) (w ∷ []) refl $ fjoin t $
      fpack t (Valss (RawPtr ∷ RawPtr ∷ [])) (within (shape Rows.the_type) (d.words, (d.slots, tt)) (w ∷ [])) (ptr_val d.words ∷ [], (ptr_val d.slots ∷ [], tt)) $ fjoin t $ s)

  pub rows_out : K → (d : Rows.the_row.Denot) (vs : List Val) → (vs ≡ both d.words d.slots ∷ [] → Seq K 𝓛 (‵ (words_lie d.words d.slots d.table) ∷ Γ) G) → Seq K 𝓛 (‵ (Rows.the_row.own_val d vs) ∷ Γ) G
  rows_out t d vs k =
      fsplit t $ fpick t (λ vss. fsplit t $ feq_l t (λ ev. fsplit t $ feq_l t (λ ew. fsplit t $ feq_l t (λ ep. drop t $ k
      (subst (λ (ps : List Val). vs ≡ vstruct (of_list (ptr_val d.words ∷ (ps ++ []))) ∷ []) ep (subst (λ (ws : List Val). vs ≡ vstruct (of_list (ws ++ (vss.1.0 ++ []))) ∷ []) ew ev))))))

  pub twin_in : K → (d : Two.Denot) → Step K 𝓛 (‵ (Two.own_val d (hand_of d.words d.slots ∷ [])) ∷ Γ) G (‵ (words_lie d.words d.slots (Some (d.table_id, d.key))) ∷ Γ) G
  twin_in t d = step (λ s. use0 𝓛 (‵ (Hand.own_val (d.words, (d.slots, (tt, tt))) (hand_of d.words d.slots ∷ []))) (hand_made u64 Known.the_row usize RegionRule.the_row rule 𝓛 d.words d.slots) $ fjoin t $ s)

  pub twin_out : K → (d : Two.Denot) (vs : List Val) → (vs ≡ hand_of d.words d.slots ∷ [] → Seq K 𝓛 (‵ (words_lie d.words d.slots (Some (d.table_id, d.key))) ∷ Γ) G) → Seq K 𝓛 (‵ (Two.own_val d vs) ∷ Γ) G
  twin_out t d vs k = fsplit t $ facts t Hand (Is Hand) (shows 𝓛 Hand) (d.words, (d.slots, (tt, tt))) vs (λ is. k (hand_told u64 Known.the_row usize RegionRule.the_row rule d.words d.slots vs is))

-- both addresses of a rows are in blocks
pub both_good : (w p : Ptr) → InBlock w → InBlock p → T (has_ty (ty_struct [] (tcons ty_ptr (tcons ty_ptr tnil))) (both w p)) × WT (both w p)
both_good (block_ptr b o) (block_ptr c e) i j = (tt, (tt, (tt, tt)))
both_good (block_ptr b o) null_ptr i j = absurd j
both_good null_ptr p i j = absurd i

pub lies_in_blocks : {M : Type 1} {𝓤 : Ura M} (𝓛 : Logic 𝓤) (w p : Ptr) (t : TableId × ℕ) → ent 𝓤 (sem 𝓛 (words_lie w p (Some t))) (guard 𝓤 (InBlock w × InBlock p) (sem 𝓛 (words_lie w p (Some t))))
unfolding Rattle.atomic_table.specs.Seated.seal
lies_in_blocks {𝓤 = 𝓤} 𝓛 w p t = let C : Fml = common u64 Known.the_row.coded.code (Ruled t.1) w p t.0 in
    qed 𝓛 (‵ (lasts t.0 []) ∷ ‵ C ∷ []) ∵ move ! (1 ∷ []) $ use1 𝓛 (given (Placed u64 w p t.0) (‵ C)) (fact_use 𝓤 _ (placed 𝓛 u64 Known.the_row.coded (Ruled t.1) w p t.0) (guard_i 𝓤 (Placed u64 w p t.0) (sem 𝓛 C))) $ learn ! (λ at.
    check ! (at.0, subst InBlock (sym at.1) tt) $ move ! (1 ∷ 0 ∷ []) $ done !)
