-- What some ends mean, and one more.
use Rattle.std.proofs.Common.{◌≡◌, ◌<◌, ◌++◌, ◌⊎◌, inl, inr, ℕ, zero, suc, List, [], ◌∷◌, Option, Some, None, Result, Ok, All, Any, length, map, take, get_or, refl, ap, arith}
use Rattle.std.specs.Option.{unwrap_or}
use Rattle.std.proofs.lemmas.List.Elements.{All-cons, All-head, All-nil, All-push, All-tail, All-weaker}
use Rattle.partial_agg.specs.declared.map.BlockAnswer.{BlockAnswer}
use Rattle.partial_agg.specs.declared.map.BlockAnswer.TheVariants as answer
use Rattle.worker_run.specs.Verdicts.{AreVerdict, EndsWell, NamesNoRow}
use Rattle.worker_run.specs.declared.WorkerEnd.{WorkerEnd}
use Rattle.worker_run.specs.declared.WorkerEnd.TheVariants.{Finished, Stopped, Refused, NoMemory}
use Rattle.row_blocks.proofs.Elements.{any_cases, any_head, any_more, any_none, any_tail}

well_names_none : (end : Option WorkerEnd) → EndsWell end → NamesNoRow end
well_names_none None w = tt
well_names_none (Some Finished) w = tt
well_names_none (Some Stopped) w = absurd w
well_names_none (Some (Refused row cause item)) w = absurd w
well_names_none (Some NoMemory) w = absurd w

pub one_well : (ends : List (Option WorkerEnd)) (end : Option WorkerEnd) (verdict : Option BlockAnswer) → EndsWell end → AreVerdict ends verdict → AreVerdict (ends ++ end ∷ []) verdict
one_well ends end None w v = All-push EndsWell ends end v w
one_well ends end (Some (answer.Row row cause item)) w v = any_more (λ (e : Option WorkerEnd). e ≡ Some (Refused row cause item)) ends end v
one_well ends end (Some answer.Memory) w v = All-push NamesNoRow ends end v (well_names_none end w)

pub one_without : (ends : List (Option WorkerEnd)) (end : Option WorkerEnd) (verdict : Option BlockAnswer) → NamesNoRow end → AreVerdict ends verdict → AreVerdict (ends ++ end ∷ []) (Some (unwrap_or verdict answer.Memory))
one_without ends end None n v = All-push NamesNoRow ends end (All-weaker EndsWell NamesNoRow well_names_none ends v) n
one_without ends end (Some (answer.Row row cause item)) n v = any_more (λ (e : Option WorkerEnd). e ≡ Some (Refused row cause item)) ends end v
one_without ends end (Some answer.Memory) n v = All-push NamesNoRow ends end v n

-- ---- ends in a list of what the workers brought home

pub more_ends : {A B : Type 0} (f : A → B) (xs : List A) (k : ℕ) (d : A) → k < length xs → map f (take (suc k) xs) ≡ map f (take k xs) ++ f (get_or xs k d) ∷ []
more_ends f [] k d h = absurd (omega arith)
more_ends f (x ∷ xs) zero d h = refl
more_ends f (x ∷ xs) (suc k) d h = ap (λ l. f x ∷ l) (more_ends f xs k d (omega arith))

pub all_apart : {A B : Type 0} (P : B → Type 0) (f : A → B) (xs : List A) → All P (map f xs) → All (λ x. P (f x)) xs
all_apart P f [] h = All-nil (λ x. P (f x))
all_apart P f (x ∷ xs) h = All-cons (λ x. P (f x)) x xs (All-head P (f x) (map f xs) h) (all_apart P f xs (All-tail P (f x) (map f xs) h))

pub any_apart : {A B : Type 0} (P : B → Type 0) (f : A → B) (xs : List A) → Any P (map f xs) → Any (λ x. P (f x)) xs
any_apart P f [] a = absurd (any_none P a)
any_apart P f (x ∷ xs) a = by (any_cases P (f x) (map f xs) a) (any_apart P f xs)
  where
    by : P (f x) ⊎ Any P (map f xs) → (Any P (map f xs) → Any (λ x. P (f x)) xs) → Any (λ x. P (f x)) (x ∷ xs)
    by (inl p) rest = any_head (λ x. P (f x)) x xs p
    by (inr a) rest = any_tail (λ x. P (f x)) x xs (rest a)

pub ok_inj : {A E : Type 0} (r : Result A E) (a b : A) → r ≡ Ok a → r ≡ Ok b → a ≡ b
ok_inj r a b e f = cc
