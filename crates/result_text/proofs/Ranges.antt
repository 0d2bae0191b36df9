-- The texts of ranges one behind the other are the text of all.
use Rattle.std.proofs.Common.{◌≡◌, ◌≤◌, ◌<◌, ◌+◌, ◌*◌, ◌/◌, ◌%◌, ◌++◌, ◌∷◌, ◌∙◌, ◌⊎◌, [], ℕ, zero, suc, List, Result, Ok, IfOk, ap, arith, drop, get_or, inl, inr, length, map, min, refl, subst, sym, take, append-nil}
use Rattle.std.proofs.Math.Dec.{eqb-suc-zero}
use Rattle.std.proofs.lemmas.Bool.{cases_lt}
use Rattle.std.proofs.lemmas.List.{drop-drop, drop_all, length-map, map-append, take-append-drop}
use Rattle.std.specs.Fork.{slice_chunk}
use Rattle.std.specs.Global.{Vec}
use Rattle.std.specs.declared.alloc.AllocError.{AllocError}
use Rattle.par_model.specs.Plan.{Plan}
use Rattle.par_model.specs.Table.{table_text}
use Rattle.partial_agg.specs.declared.groups.Group.{Group}
use Rattle.result_text.specs.GroupOrder.{line_of}
use Rattle.result_text.specs.Pieces.{AreParts, joined, lines_text}
use Rattle.result_text.specs.Text.{Line, line_record, shown}
use Rattle.result_text.specs.declared.order.GroupRef.{GroupRef}
use Rattle.result_text.proofs.Tables.{table_text-append, table_text-nil}

-- as many parts of a size as a division rounded up gives cover all
pub cover : (all size : ℕ) → 0 < size → all ≤ (all / size + min 1 (all % size)) * size
cover all size some = by (cases_lt 0 (all % size))
  where
    by : (0 < all % size) ⊎ (all % size ≤ 0) → all ≤ (all / size + min 1 (all % size)) * size
    by (inl more) = rw (let e : min 1 (all % size) ≡ 1 = omega arith in e) (omega arith)
    by (inr none) = rw (let e : min 1 (all % size) ≡ 0 = omega arith in e) (omega arith)

-- the text of two lists of lines is the one behind the other
pub lines_text-append : (plan : Plan) (groups : List Group) (a b : List GroupRef) → lines_text plan groups (a ++ b) ≡ lines_text plan groups a ++ lines_text plan groups b
lines_text-append plan groups a b =
    let count = length plan.groups in
    ap (λ (lines : List Line). table_text (map (line_record plan) lines)) (map-append (line_of count groups) a b)
    ∙ ap table_text (map-append (line_record plan) (map (line_of count groups) a) (map (line_of count groups) b))
    ∙ table_text-append (map (line_record plan) (map (line_of count groups) a)) (map (line_record plan) (map (line_of count groups) b))

-- pieces that have the texts of the parts from one on
from : (plan : Plan) (groups : List Group) (refs : List GroupRef) (size at : ℕ) (pieces : List (Vec ℕ)) → length refs ≤ (at + length pieces) * size
    → ((n : ℕ) (d : Vec ℕ) → n < length pieces → (get_or pieces n d).items ≡ lines_text plan groups (slice_chunk refs size (at + n))) → joined pieces ≡ lines_text plan groups (drop (at * size) refs)
from plan groups refs size at [] enough each = sym (ap (lines_text plan groups) (drop_all (at * size) refs (omega arith)) ∙ table_text-nil)
from plan groups refs size at (piece ∷ pieces) enough each =
    let next : at * size + size ≡ (at + 1) * size = omega arith in
    let here : piece.items ≡ lines_text plan groups (take size (drop (at * size) refs)) =
    each 0 piece (omega arith) ∙ ap (λ (n : ℕ). lines_text plan groups (slice_chunk refs size n)) (let e : at + 0 ≡ at = omega arith in e) in
    let rest : joined pieces ≡ lines_text plan groups (drop ((at + 1) * size) refs) =
    from plan groups refs size (at + 1) pieces (subst (λ (n : ℕ). length refs ≤ n * size) (let e : at + length (piece ∷ pieces) ≡ at + 1 + length pieces = omega arith in e) enough)
    (λ n d lt. each (suc n) d (omega arith) ∙ ap (λ (k : ℕ). lines_text plan groups (slice_chunk refs size k)) (let e : at + suc n ≡ at + 1 + n = omega arith in e)) in
    (λ i. here i ++ rest i)
    ∙ ap (λ (l : List GroupRef). lines_text plan groups (take size (drop (at * size) refs)) ++ lines_text plan groups l) (sym (drop-drop size (at * size) refs ∙ ap (λ (n : ℕ). drop n refs) next))
    ∙ sym (lines_text-append plan groups (take size (drop (at * size) refs)) (drop size (drop (at * size) refs)))
    ∙ ap (lines_text plan groups) (take-append-drop size (drop (at * size) refs))

abbrev Part : Type 0
Part = Result (Vec ℕ) AllocError

pub ok_same : (a b : Vec ℕ) → Path Part (Ok a) (Ok b) → a ≡ b
ok_same a b e = cc

pub at_ok : (pieces : List (Vec ℕ)) (n : ℕ) (d : Vec ℕ) → n < length pieces → Path Part (get_or (map Ok pieces) n (Ok d)) (Ok (get_or pieces n d))
at_ok [] n d lt = absurd (omega arith)
at_ok (p ∷ ps) zero d lt = refl
at_ok (p ∷ ps) (suc n) d lt = at_ok ps n d (omega arith)

abbrev ok : Vec ℕ → Part
ok piece = Ok piece

pub many_ok : (pieces : List (Vec ℕ)) (parts : List Part) → Path (List Part) (map Ok pieces) parts → length parts ≡ length pieces
many_ok pieces parts e = sym (ap (length {A = Part}) e) ∙ length-map pieces ok

-- the first piece, and then the texts of all parts
pub joined-parts : (plan : Plan) (groups : List Group) (refs : List GroupRef) (first : Vec ℕ) (parts : List Part) (pieces : List (Vec ℕ)) → AreParts plan groups refs parts
    → Path (List Part) (map Ok pieces) (Ok first ∷ parts) → joined pieces ≡ first.items ++ lines_text plan groups refs
joined-parts plan groups refs first parts [] are e = absurd (cc)
joined-parts plan groups refs first parts (piece ∷ pieces) are e =
    let head : piece ≡ first = ok_same piece first (cc) in
    let tail : Path (List Part) (map Ok pieces) parts = cc in
    let long : length parts ≡ length pieces = many_ok pieces parts tail in
    (λ i. (head i).items ++ from plan groups refs are.size 0 pieces (subst (λ (n : ℕ). length refs ≤ n * are.size) (long ∙ (let e : length pieces ≡ 0 + length pieces = omega arith in e)) are.enough)
    (λ n d lt.
    let text = subst (λ (parts : List Part). IfOk (get_or parts n (Ok d)) (λ text. text.items ≡ lines_text plan groups (slice_chunk refs are.size n))) (sym tail) (are.each n (Ok d) (omega (arith, lt, long))) in
    subst (λ (part : Part). IfOk part (λ text. text.items ≡ lines_text plan groups (slice_chunk refs are.size n))) (at_ok pieces n d lt) text
    ∙ ap (λ (k : ℕ). lines_text plan groups (slice_chunk refs are.size k)) (let e : n ≡ 0 + n = omega arith in e)) i)
    ∙ ap (λ (l : List GroupRef). first.items ++ lines_text plan groups l) (let z : drop (0 * are.size) refs ≡ refs = ap (λ (n : ℕ). drop n refs) (let e : 0 * are.size ≡ 0 = omega arith in e) in z)

-- one piece alone
pub joined-one : (first : Vec ℕ) (pieces : List (Vec ℕ)) → Path (List Part) (map Ok pieces) (Ok first ∷ []) → joined pieces ≡ first.items
joined-one first [] e = absurd (cc)
joined-one first (piece ∷ []) e = append-nil piece.items ∙ ap (λ (v : Vec ℕ). v.items) (ok_same piece first (cc))
joined-one first (piece ∷ other ∷ pieces) e = absurd (cc)

-- where something is grouped by, all lines are shown
pub shown-all : (plan : Plan) (lines : List Line) → (length plan.groups ≡ 0 → ⊥) → shown plan lines ≡ lines
shown-all plan lines some = by (length plan.groups) refl
  where
    by : (n : ℕ) → length plan.groups ≡ n → shown plan lines ≡ lines
    by zero e = absurd (some e)
    by (suc n) e = rw (e, eqb-suc-zero n) refl
