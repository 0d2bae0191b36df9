-- The table of a query that is ready to run: what its text and the answers on its rows say of the outcome.
use Rattle.std.proofs.Common.{[], ◌≡◌, ◌+◌, ◌-◌, ◌∙◌, inl, inr, take, ℕ, List, ◌∷◌, refl, ap, arith, subst, sym, None, Some, Option, Contains, IfSome, Result, Ok, Err, ◌⊎◌}
use Rattle.std.specs.Prelude.{IfErr, IfOk, OnOk}
use Rattle.std.specs.Io.KnownBytes.{Appends}
use Rattle.csv_rows.specs.Records.{record_at}
use Rattle.gather_run.specs.Answers.{IsCause, IsFirstCause}
use Rattle.gather_run.specs.Used.{IsUsed}
use Rattle.gather_run.specs.declared.GatherAnswer.{GatherAnswer}
use Rattle.gather_run.specs.declared.GatherAnswer.TheVariants as gathering
use Rattle.gather_run.specs.declared.Gathered.{Gathered}
use Rattle.par_model.specs.Named.{NamedPlan, bound_plan}
use Rattle.par_model.specs.Outcome.{IsAnswer, by_refused}
use Rattle.par_model.specs.Plan.{Plan}
use Rattle.par_model.specs.Refuse.{refusal as refusal_of}
use Rattle.par_model.specs.declared.refusal.Refusal.{Refusal}
use Rattle.plan_spec.specs.Query.{Query}
use Rattle.result_text.specs.Text.{IsTextOf}
use Rattle.partial_agg.specs.declared.groups.Group.{Group}
use Rattle.table_query.specs.Answers.{bound_over, outcome_over}
use Rattle.group_query.specs.Answers.{IsTableText, IsTextOver}
use Rattle.table_query.specs.Asked.{plan_in}
use Rattle.partial_agg.specs.Rows.{header_width}
use Rattle.partial_agg.specs.declared.map.BlockAnswer.{BlockAnswer}
use Rattle.partial_agg.specs.declared.map.BlockAnswer.TheVariants as block
use Rattle.group_query.specs.Grouping.{NamesRefused}
use Rattle.table_query.specs.Refused.{refused_in}
use Rattle.group_query.specs.Made.{IsMadeBy}
use Rattle.table_query.specs.Ready.{IsReady}
use Rattle.group_query.specs.Grouping.{IsGroupsText}
use Rattle.table_query.specs.Stops.{IsExplained, IsFirstStop}
use Rattle.group_query.specs.Stops.{Restates, RestatesGather}
use Rattle.table_query.specs.declared.input.Ready.{Ready}
use Rattle.table_query.specs.declared.stop.Stop.{Stop}
use Rattle.table_query.specs.declared.stop.Stop.TheVariants as stop
use Rattle.table_query.proofs.Outcomes.{memory_explained, memory_first, plan_is, refused_explained, refused_first_stop, unwritten_explained}
use Rattle.table_query.proofs.RefusedRows.{refused_first, refused_in-has}

module _ (asked : Option Query) where
  pub table_text : (left : Option (List ℕ)) (r : Ready) (groups : List Group) (text : List ℕ) → IsReady asked left r → refused_in r.bound r.rows ≡ [] → IsGroupsText r groups text
      → IfSome left (λ bytes. IsTableText (plan_in asked) bytes text)
  table_text None r groups text ready none t = tt
  table_text (Some bytes) r groups text ready none t = record {
    has_table = ready.outcome ∙ ap by_refused none;
    is_text = subst (λ (p : Option NamedPlan). IsTextOver p bytes text) (sym (plan_is asked r.plan ready.query))
        (subst (λ (l : List (List (List ℕ))). IsAnswer r.plan.plan l text) ready.records t.answers);
  }

  pub made_text : (left : Option (List ℕ)) (r : Ready) (g : Gathered) (text : List ℕ) → IsReady asked left r → IsUsed r.bound r.rows r.plan.workers r.plan.area_pages g.finished → IsGroupsText r g.groups text
      → IfSome left (λ bytes. IsMadeBy asked bytes text g)
  made_text None r g text ready used t = tt
  made_text (Some bytes) r g text ready used t =
      let same : r.bound ≡ bound_over r.plan.plan bytes = ready.bound.is ∙ ap (λ (l : List (List (List ℕ))). bound_plan (record_at l 0) r.plan.plan) ready.records in
      subst (λ (q : Option Query). IsMadeBy q bytes text g) (sym ready.query)
      (record {
        used = subst (λ (l : List (List (List ℕ))). IsUsed (bound_over r.plan.plan bytes) l r.plan.workers r.plan.area_pages g.finished) ready.records (subst (λ (b : Plan). IsUsed b r.rows r.plan.workers r.plan.area_pages g.finished) same used);
        text_is = subst (λ (b : Plan). IsTextOf r.plan.plan b g.groups text) same t.of_groups;
      })

  -- ---- what was written

  pub table_written : (left : Option (List ℕ)) (r : Ready) (groups : List Group) (old new : Option (List ℕ)) → IsReady asked left r → refused_in r.bound r.rows ≡ []
      → (text : List ℕ) × IsGroupsText r groups text × Appends old new text → IfSome left (λ bytes. (text : List ℕ) × IsTableText (plan_in asked) bytes text × Appends old new text)
  table_written None r groups old new ready none t = tt
  table_written (Some bytes) r groups old new ready none t = (t.0, table_text (Some bytes) r groups t.0 ready none t.1, t.2)

  pub part_written : (left : Option (List ℕ)) (r : Ready) (groups : List Group) (old new : Option (List ℕ)) → IsReady asked left r → refused_in r.bound r.rows ≡ []
      → (text : List ℕ) × IsGroupsText r groups text × (n : ℕ) × Appends old new (take n text)
      → IfSome left (λ bytes. (text : List ℕ) × IsTableText (plan_in asked) bytes text × (n : ℕ) × Appends old new (take n text))
  part_written None r groups old new ready none t = tt
  part_written (Some bytes) r groups old new ready none t = (t.0, table_text (Some bytes) r groups t.0 ready none t.1, t.2, t.3)

  -- the text is that of the groups that were gathered
  pub made_written : (left : Option (List ℕ)) (r : Ready) (g : Gathered) (old new : Option (List ℕ)) → IsReady asked left r → refused_in r.bound r.rows ≡ [] → IsUsed r.bound r.rows r.plan.workers r.plan.area_pages g.finished
      → (text : List ℕ) × IsGroupsText r g.groups text × Appends old new text → IfSome left (λ bytes. (text : List ℕ) × IsTableText (plan_in asked) bytes text × IsMadeBy asked bytes text g × Appends old new text)
  made_written None r g old new ready none used t = tt
  made_written (Some bytes) r g old new ready none used t = (t.0, table_text (Some bytes) r g.groups t.0 ready none t.1, made_text (Some bytes) r g t.0 ready used t.1, t.2)

  -- and they are given back beside it
  pub made_given : (left : Option (List ℕ)) (r : Ready) (g : Gathered) (result : Result Gathered Stop) (old new : Option (List ℕ)) → IsReady asked left r → refused_in r.bound r.rows ≡ [] → IsUsed r.bound r.rows r.plan.workers r.plan.area_pages g.finished
      → IfOk result (λ given. given ≡ g) → OnOk result ((text : List ℕ) × IsGroupsText r g.groups text × Appends old new text)
      → IfOk result (λ given. IfSome left (λ bytes. (text : List ℕ) × IsTableText (plan_in asked) bytes text × IsMadeBy asked bytes text given × Appends old new text))
  made_given left r g (Ok given) old new ready none used same t =
      subst (λ (it : Gathered). IfSome left (λ bytes. (text : List ℕ) × IsTableText (plan_in asked) bytes text × IsMadeBy asked bytes text it × Appends old new text)) (sym same) (made_written left r g old new ready none used t)
  made_given left r g (Err why) old new ready none used same t = tt

  -- a part of it, where a write failed
  pub part_given : (left : Option (List ℕ)) (r : Ready) (g : Gathered) (result : Result Gathered Stop) (old new : Option (List ℕ)) → IsReady asked left r → refused_in r.bound r.rows ≡ []
      → IfErr result (λ why. why ≡ stop.WriteFault → (text : List ℕ) × IsGroupsText r g.groups text × (n : ℕ) × Appends old new (take n text))
      → IfErr result (λ why. why ≡ stop.WriteFault → IfSome left (λ bytes. (text : List ℕ) × IsTableText (plan_in asked) bytes text × (n : ℕ) × Appends old new (take n text)))
  part_given left r g (Ok given) old new ready none t = tt
  part_given left r g (Err why) old new ready none t = λ e. part_written left r g.groups old new ready none (t e)

  -- the reason that there is none
  pub none_given : (left : Option (List ℕ)) (r : Ready) (result : Result Gathered Stop) → IsReady asked left r → refused_in r.bound r.rows ≡ []
      → IfErr result (λ why. (why ≡ stop.WriteFault) ⊎ (why ≡ stop.Memory)) → IfErr result (λ why. IsExplained (plan_in asked) left why)
  none_given left r (Ok given) ready none is = tt
  none_given left r (Err why) ready none is = unwritten_explained asked left r why ready none is

  -- ---- the answers of the two ways to group

  pub block_explained : (left : Option (List ℕ)) (r : Ready) (answer : BlockAnswer) (why : Stop) → IsReady asked left r → NamesRefused r.bound r.rows answer → Restates r.plan.plan answer why → IsExplained (plan_in asked) left why
  block_explained left r (block.Row row cause item) why ready names (inl is) =
      refused_explained asked left r row (record { cause = cause; item = item }) why ready
      (subst (λ (l : List (ℕ × Refusal)). Contains l (row, record { cause = cause; item = item })) (sym names.1) (0, omega arith, refl)) is
  block_explained left r (block.Row row cause item) why ready names (inr e) = subst (IsExplained (plan_in asked) left) (sym e) (memory_explained asked left)
  block_explained left r block.Memory why ready names e = subst (IsExplained (plan_in asked) left) (sym e) (memory_explained asked left)

  pub block_first : (left : Option (List ℕ)) (r : Ready) (answer : BlockAnswer) (why : Stop) → IsReady asked left r → NamesRefused r.bound r.rows answer → Restates r.plan.plan answer why
      → IfSome left (λ bytes. IsFirstStop (plan_in asked) why (outcome_over (plan_in asked) bytes))
  block_first left r (block.Row row cause item) why ready names (inl is) = refused_first_stop asked left r row (record { cause = cause; item = item }) names.0 why ready names.1 is
  block_first left r (block.Row row cause item) why ready names (inr e) = memory_first asked left why e
  block_first left r block.Memory why ready names e = memory_first asked left why e

  pub gather_explained : (left : Option (List ℕ)) (r : Ready) (answer : GatherAnswer) (why : Stop) → IsReady asked left r → IsCause r.bound r.rows answer → RestatesGather r.plan.plan answer why → IsExplained (plan_in asked) left why
  gather_explained left r (gathering.Row row cause item) why ready refused (inl is) =
      refused_explained asked left r row (record { cause = cause; item = item }) why ready
      (refused_in-has r.bound r.rows row (record { cause = cause; item = item }) refused.first refused.within refused.cause_is) is
  gather_explained left r (gathering.Row row cause item) why ready refused (inr e) = subst (IsExplained (plan_in asked) left) (sym e) (memory_explained asked left)
  gather_explained left r gathering.Memory why ready refused e = subst (IsExplained (plan_in asked) left) (sym e) (memory_explained asked left)

  pub gather_first : (left : Option (List ℕ)) (r : Ready) (answer : GatherAnswer) (why : Stop) → IsReady asked left r → IsCause r.bound r.rows answer → IsFirstCause r.bound r.rows answer → RestatesGather r.plan.plan answer why
      → IfSome left (λ bytes. IsFirstStop (plan_in asked) why (outcome_over (plan_in asked) bytes))
  gather_first left r (gathering.Row row cause item) why ready refused first (inl is) =
      let refusal : Refusal = record { cause = cause; item = item } in
      let n = row - 1 in
      let place : n + 1 ≡ row = omega (arith, refused.first) in
      let found = refused_first r.bound r.rows n refusal (omega (arith, refused.first, refused.within)) first
      (subst (λ k. refusal_of r.bound (header_width r.rows) (record_at r.rows k) ≡ Some refusal) (sym place) refused.cause_is) in
      refused_first_stop asked left r row refusal found.0 why ready (subst (λ k. refused_in r.bound r.rows ≡ (k, refusal) ∷ found.0) place found.1) is
  gather_first left r (gathering.Row row cause item) why ready refused first (inr e) = memory_first asked left why e
  gather_first left r gathering.Memory why ready refused first e = memory_first asked left why e
