-- Words that begin with the name of another form are no plan: to clap the first is a stray one.
use Rattle.std.proofs.Common.{◌≡◌, inl, inr, ℕ, false, List, [], ◌∷◌, refl, codes, subst, sym}
use Rattle.std.specs.Prelude.{IsNone}
use Rattle.clap.specs.Faults.{walk_fault}
use Rattle.plan_spec.specs.Options.{is_command_line, pargather_command}
use Rattle.plan_spec.specs.Query.{query_of}
use Rattle.group_query.specs.Answers.{IsOtherForm, plan_of}

strayed_merge : (rest : List (List ℕ)) → is_command_line pargather_command (codes "merge" ∷ rest) ≡ false
unfolding walk_fault
strayed_merge rest = refl

strayed_join : (rest : List (List ℕ)) → is_command_line pargather_command (codes "join" ∷ rest) ≡ false
unfolding walk_fault
strayed_join rest = refl

strayed_gen : (rest : List (List ℕ)) → is_command_line pargather_command (codes "gen" ∷ rest) ≡ false
unfolding walk_fault
strayed_gen rest = refl

stray : (words : List (List ℕ)) → IsOtherForm words → is_command_line pargather_command words ≡ false
stray [] (inl is) = cc is
stray [] (inr (inl is)) = cc is
stray [] (inr (inr is)) = cc is
stray (word ∷ rest) (inl is) = subst (λ (w : List ℕ). is_command_line pargather_command (w ∷ rest) ≡ false) (sym is) (strayed_merge rest)
stray (word ∷ rest) (inr (inl is)) = subst (λ (w : List ℕ). is_command_line pargather_command (w ∷ rest) ≡ false) (sym is) (strayed_join rest)
stray (word ∷ rest) (inr (inr is)) = subst (λ (w : List ℕ). is_command_line pargather_command (w ∷ rest) ≡ false) (sym is) (strayed_gen rest)

pub no_plan : (words : List (List ℕ)) → IsOtherForm words → IsNone (plan_of words)
unfolding query_of
no_plan words other = rw (stray words other) refl
