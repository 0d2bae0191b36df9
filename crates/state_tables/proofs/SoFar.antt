-- The texts of the jobs so far, one after another.
use Rattle.std.proofs.Common.{◌≡◌, ◌++◌, ◌∙◌, Bool, Ok, true, ℕ, List, [], ◌∷◌, ap, append-nil, cond, map, refl, subst, sym}
use Rattle.std.specs.Global.{Vec}
use Rattle.std.specs.List.{AllZip, concat}
use Rattle.std.proofs.lemmas.List.{map-append}
use Rattle.std.proofs.lemmas.List.Folds.{concat-append}
use Rattle.result_text.specs.Pieces.{joined}
use Rattle.state_finalize.specs.declared.finishing.Finished.TheVariants.{Table}
use Rattle.state_tables.specs.Jobs.{IsTextJob}
use Rattle.state_tables.specs.declared.finishing.Job.{Job}

zip_push : {A B : Type 0} (R : A → B → Type 0) (xs : List A) (ys : List B) (x : A) (y : B) → AllZip R xs ys → R x y → AllZip R (xs ++ x ∷ []) (ys ++ y ∷ [])
zip_push R [] [] x y all is = (is, tt)
zip_push R [] (b ∷ ys) x y all is = absurd all
zip_push R (a ∷ xs) [] x y all is = absurd all
zip_push R (a ∷ xs) (b ∷ ys) x y all is = (all.0, zip_push R xs ys x y all.1 is)

joined-append : (olds added : List (Vec ℕ)) → joined (olds ++ added) ≡ joined olds ++ joined added
joined-append olds added =
    let items = λ (piece : Vec ℕ). piece.items in
    ap concat (map-append items olds added) ∙ concat-append (map items olds) (map items added)

concat_push : (texts : List (List ℕ)) (text : List ℕ) → concat (texts ++ text ∷ []) ≡ concat texts ++ text
concat_push texts text = concat-append texts (text ∷ []) ∙ ap (λ (t : List ℕ). concat texts ++ t) (append-nil text)

-- pieces that were put at the end of others
appended : (ok : Bool) (olds added news : List (Vec ℕ)) → ok ≡ true → news ≡ cond ok (olds ++ added) olds → news ≡ olds ++ added
appended ok olds added news is put = subst (λ (b : Bool). news ≡ cond b (olds ++ added) olds) is put

pub one_more : (jobs : List Job) (job : Job) (olds news : List (Vec ℕ)) (pieces : Vec (Vec ℕ)) (ok : Bool) → job.done ≡ Ok (Table pieces) → ok ≡ true → news ≡ cond ok (olds ++ pieces.items) olds
    → (texts : List (List ℕ)) × AllZip IsTextJob jobs texts × (joined olds ≡ concat texts) → (texts : List (List ℕ)) × AllZip IsTextJob (jobs ++ job ∷ []) texts × (joined news ≡ concat texts)
one_more jobs job olds news pieces ok done is put so_far =
    let text = joined pieces.items in
    let texts = so_far.0 in (
      texts ++ text ∷ [],
      zip_push IsTextJob jobs texts job text so_far.1 (record { finished = Table pieces; is = done; has = refl }),
      ap joined (appended ok olds pieces.items news is put) ∙ joined-append olds pieces.items ∙ ap (λ (t : List ℕ). t ++ text) so_far.2 ∙ sym (concat_push texts text),
    )
