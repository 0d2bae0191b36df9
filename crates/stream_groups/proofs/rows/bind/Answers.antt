use Rattle.std.proofs.Common.{◌∙◌, [], ℕ, List, ap, inl, inr, refl, slice_index_or, string_bytes, subst}
use Rattle.csv_rows.specs.Records.{record_at}
use Rattle.par_model.specs.Named.{bound_plan, names_of}
use Rattle.par_model.specs.Plan.{Plan}
use Rattle.shown_text.specs.Header.{missing_text}
use Rattle.stream_groups.specs.Twice.{SaysTwice}
use Rattle.stream_groups.proofs.rows.bind.Goals as goal

pub returns-in-Err-bind_once-clause-why : goal.returns-in-Err-bind_once-clause-why
returns-in-Err-bind_once-clause-why c =
    let plan = c.args.plan.now.plan in
    let header = record_at c.args.store.now 0 in
    elim c.in-Err-bind_once.ensures.twice [
      | inl memory ↦ inl memory
      | inr said ↦
          let says : SaysTwice (bound_plan header plan) header (string_bytes said.0) =
          subst (λ (h : List (List ℕ)). SaysTwice (bound_plan header plan) h (string_bytes said.0)) c.find.ensures
          (subst (λ (p : Plan). SaysTwice p c.find.result (string_bytes said.0)) c.in-Ok.ensures.bound said.2) in
          inr (inr (said.0, said.1, says, c.in-Ok.ensures.whole))
    ]

pub returns-in_ok-said-in-Err-clause-why : goal.returns-in_ok-said-in-Err-clause-why
returns-in_ok-said-in-Err-clause-why c =
    let name = slice_index_or (names_of c.args.plan.now.plan) c.in-Err.missing.at [] in
    inr (inl (
      c.in_ok-said-in-Err.said,
      refl,
      record {
        name = name;
        lacks = c.in-Err.ensures.name;
        says = c.in_ok-said-in-Err.ensures ∙ ap (λ (h : List (List ℕ)). missing_text name h) c.find-in-Err.ensures;
      },
    ))
