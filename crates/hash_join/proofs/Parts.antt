-- The entries of a history are those of all callers together, and the calls of one key are among those that were made.
use Rattle.std.proofs.Common.{◌≡◌, ◌≢◌, ◌<◌, ◌≤◌, ◌==◌, ◌++◌, ℕ, zero, suc, Bool, true, false, cond, filter, leb, List, [], ◌∷◌, map, refl, ap, sym, subst, ◌∙◌, arith, append-nil}
use Rattle.std.specs.List.{flat_map}
use Rattle.std.specs.List.Sorted.{IsPermutation}
use Rattle.std.specs.Cmp.Lexicographic.{slice_cmp}
use Rattle.std.specs.Ordering.{eq_by_cmp, nat_cmp}
use Rattle.std.proofs.lemmas.List.Concat.{flat_map-append}
use Rattle.std.proofs.lemmas.List.Elements.{filter-append}
use Rattle.std.proofs.lemmas.List.Sorted.{IsPermutation-append, IsPermutation-refl, IsPermutation-sym, IsPermutation-trans}
use Rattle.lock_book.specs.declared.view.Entry.{Entry}
use Rattle.lock_book.specs.History.{calls_by}
use Rattle.scan_claim.specs.Drawing.{below}
use Rattle.dshash_parts.specs.Replays.{calls_of_key, made_of}
use Rattle.dshash_parts.specs.declared.histories.PartitionCalls.{PartitionCalls}
use Rattle.dshash_parts.specs.declared.histories.PartitionCalls.TheVariants.{Call, Looks, Moves, Lists}
use Rattle.dshash_parts.specs.declared.histories.PartitionReplies.{PartitionReplies}
use Rattle.dshash_parts.specs.declared.histories.PartitionReplies.TheVariants.{Made, LacksItem, HasToGrow, Crowded, HasSize, Moved, Listed}
use Rattle.hash_join.specs.Filled.{RowEntry, done_in, done_of}
use Rattle.join_pairs.specs.declared.chains.Link.{Link}
use Rattle.join_pairs.proofs.Exchange.{both, flat_map-same}

-- ---- one caller out of all

module _ {A : Type 0} (b : ℕ) (l : List A) where
  abbrev picked : ℕ → List A
  picked n = cond {A = List A} (b == n) l []

  pick_none : (n : ℕ) → n ≤ b → flat_map picked (below n) ≡ []
  pick_none zero h = refl
  pick_none (suc n) h =
      let no : (b == n) ≡ false = grind (arith, h) in
      flat_map-append picked (below n) (n ∷ []) ∙ ap (λ (m : List A). m ++ (picked n ++ [])) (pick_none n (omega (arith, h))) ∙ append-nil (picked n) ∙ ap (λ t. cond {A = List A} t l []) no

  pick : (n : ℕ) → b < n → flat_map picked (below n) ≡ l
  pick zero h = absurd (omega (arith, h))
  pick (suc n) h = by (λ l. pick n l) (b == n) refl
    where
      whole : flat_map picked (below n ++ n ∷ []) ≡ flat_map picked (below n) ++ picked n
      whole = flat_map-append picked (below n) (n ∷ []) ∙ ap (λ (m : List A). flat_map picked (below n) ++ m) (append-nil (picked n))

      by : (b < n → flat_map picked (below n) ≡ l) → (t : Bool) → (b == n) ≡ t → flat_map picked (below n ++ n ∷ []) ≡ l
      by earlier true e =
          let same : b ≡ n = grind (arith, e) in
          whole ∙ ap (λ (m : List A). m ++ picked n) (pick_none n (omega (arith, same))) ∙ ap (λ t. cond {A = List A} t l []) e
      by earlier false e =
          let ne : b < n = (let no : b ≢ n = grind (arith, e) in omega (arith, h, no)) in
          whole ∙ ap (λ (m : List A). m ++ picked n) (earlier ne) ∙ ap (λ t. l ++ cond {A = List A} t l []) e ∙ append-nil l

-- ---- all callers together

module _ {S C R A : Type 0} (f : Entry S C R → List A) where
  abbrev by_caller : List (Entry S C R) → ℕ → List A
  by_caller es n = flat_map f (calls_by n es)

  one_more : (e : Entry S C R) (es : List (Entry S C R)) (n : ℕ) → by_caller (e ∷ es) n ≡ cond {A = List A} (e.by == n) (f e) [] ++ by_caller es n
  one_more e es n = by (e.by == n)
    where
      by : (b : Bool) → flat_map f (cond {A = List (Entry S C R)} b (e ∷ calls_by n es) (calls_by n es)) ≡ cond {A = List A} b (f e) [] ++ flat_map f (calls_by n es)
      by true = refl
      by false = refl

  below_callers : (callers : ℕ) (e : Entry S C R) (es : List (Entry S C R)) → ((n : ℕ) → callers ≤ n → calls_by n (e ∷ es) ≡ []) → e.by < callers
  below_callers callers e es h = by (leb callers e.by) refl
    where
      by : (b : Bool) → leb callers e.by ≡ b → e.by < callers
      by true t = absurd (there (e.by == e.by) (let s : (e.by == e.by) ≡ true = grind arith in s) (h e.by (let le : callers ≤ e.by = grind (arith, t) in le)))
        where
          there : (b : Bool) → b ≡ true → cond {A = List (Entry S C R)} b (e ∷ calls_by e.by es) (calls_by e.by es) ≡ [] → ⊥
          there true s k = absurd (cc)
          there false s k = absurd (cc)
      by false t = grind (arith, t)

  rest_callers : (callers : ℕ) (e : Entry S C R) (es : List (Entry S C R)) → ((n : ℕ) → callers ≤ n → calls_by n (e ∷ es) ≡ []) → (n : ℕ) → callers ≤ n → calls_by n es ≡ []
  rest_callers callers e es h n le = by (e.by == n) (h n le)
    where
      by : (b : Bool) → cond {A = List (Entry S C R)} b (e ∷ calls_by n es) (calls_by n es) ≡ [] → calls_by n es ≡ []
      by true k = absurd (cc)
      by false k = k

  pub parts : (callers : ℕ) (es : List (Entry S C R)) → ((n : ℕ) → callers ≤ n → calls_by n es ≡ []) → IsPermutation (flat_map f es) (flat_map (by_caller es) (below callers))
  parts callers [] h = subst (λ l. IsPermutation [] l) (sym (nothing (below callers))) (IsPermutation-refl [])
    where
      nothing : (ns : List ℕ) → flat_map (by_caller []) ns ≡ []
      nothing [] = refl
      nothing (n ∷ ns) = nothing ns
  parts callers (e ∷ es) h =
      let chosen = picked e.by (f e) in
      let apart = flat_map-same (by_caller (e ∷ es)) (λ n. chosen n ++ by_caller es n) (one_more e es) (below callers) in
      let front : flat_map chosen (below callers) ≡ f e = pick e.by (f e) callers (below_callers callers e es h) in
      let rest = parts callers es (rest_callers callers e es h) in
      subst (λ l. IsPermutation (f e ++ flat_map f es) l) (sym apart)
      (IsPermutation-trans (f e ++ flat_map f es) (flat_map chosen (below callers) ++ flat_map (by_caller es) (below callers)) (flat_map (λ n. chosen n ++ by_caller es n) (below callers))
      (subst (λ l. IsPermutation (f e ++ flat_map f es) (l ++ flat_map (by_caller es) (below callers))) (sym front)
      (IsPermutation-append (f e) (f e) (flat_map f es) (flat_map (by_caller es) (below callers)) (IsPermutation-refl (f e)) rest))
      (IsPermutation-sym (flat_map (λ n. chosen n ++ by_caller es n) (below callers)) (flat_map chosen (below callers) ++ flat_map (by_caller es) (below callers)) (both chosen (by_caller es) (below callers))))

-- ---- the calls of one key

abbrev pub is_key : List ℕ → List ℕ × Link → Bool
is_key key d = eq_by_cmp (slice_cmp nat_cmp) key d.0

abbrev pub row_and_before : List ℕ × Link → ℕ × ℕ
row_and_before d = (d.1.row, d.1.before)

key_one : (key : List ℕ) (call : PartitionCalls ℕ) (reply : PartitionReplies ℕ ℕ) → made_of key call reply ≡ map row_and_before (filter (is_key key) (done_of call reply))
key_one key (Call k row spare) (Made before unused freed) = by (eq_by_cmp (slice_cmp nat_cmp) key k)
  where
    by : (b : Bool) → cond {A = List (ℕ × ℕ)} b ((row, before) ∷ []) [] ≡ map row_and_before (cond {A = List (List ℕ × Link)} b ((k, record { row = row; before = before }) ∷ []) [])
    by true = refl
    by false = refl
key_one key (Call k row spare) LacksItem = refl
key_one key (Call k row spare) (HasToGrow size back) = refl
key_one key (Call k row spare) (Crowded seed longest back) = refl
key_one key (Call k row spare) (HasSize size keys) = refl
key_one key (Call k row spare) (Moved left) = refl
key_one key (Call k row spare) (Listed entries) = refl
key_one key Looks reply = refl
key_one key (Moves to) reply = refl
key_one key Lists reply = refl

-- the calls of a key are those that were made with it
pub key_calls : (key : List ℕ) (es : List RowEntry) → calls_of_key key es ≡ map row_and_before (filter (is_key key) (done_in es))
key_calls key [] = refl
key_calls key (e ∷ es) =
    ap (λ (l : List (ℕ × ℕ)). l ++ calls_of_key key es) (key_one key e.call e.reply)
    ∙ ap (λ (l : List (ℕ × ℕ)). map row_and_before (filter (is_key key) (done_of e.call e.reply)) ++ l) (key_calls key es)
    ∙ sym (ap (map row_and_before) (filter-append (is_key key) (done_of e.call e.reply) (done_in es)) ∙ mapped (filter (is_key key) (done_of e.call e.reply)) (filter (is_key key) (done_in es)))
  where
    mapped : (xs ys : List (List ℕ × Link)) → map row_and_before (xs ++ ys) ≡ map row_and_before xs ++ map row_and_before ys
    mapped [] ys = refl
    mapped (x ∷ xs) ys = ap (λ (l : List (ℕ × ℕ)). row_and_before x ∷ l) (mapped xs ys)
