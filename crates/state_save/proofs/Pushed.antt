-- What is written of the groups at some places: so far, and at the end.
use Rattle.std.proofs.Common.{◌≡◌, ◌<◌, ◌+◌, ◌++◌, ◌∙◌, ℕ, List, [], ◌∷◌, ap, append_assoc, append-nil, drop, get_or, length, subst, sym, take, take-append-drop}
use Rattle.std.proofs.lemmas.List.{map-append, map_more}
use Rattle.partial_agg.specs.declared.groups.Group.{Group as MapGroup}
use Rattle.result_text.specs.GroupOrder.{group_of}
use Rattle.result_text.specs.declared.order.GroupRef.{GroupRef}
use Rattle.state_blocks.specs.Blocks.{Group}
use Rattle.state_save.specs.Saving.{AreTuplesOf, AreWritten, tuple_of, tuples_at}
use Rattle.state_whole.specs.declared.adding.Shape.{Shape}
use Rattle.state_writer.specs.Writing.{Ends, FitInBlocks, Goes, HasTaken}
use Rattle.state_writer.specs.declared.writer.BodyWriter.{BodyWriter}
use Rattle.state_writer.proofs.Long.{fit_front}

abbrev pub no_ref : GroupRef
no_ref = record { key = record { ref_ptr = (0, 0); now = [] }; at = 0 }

-- the groups of the places before this one are written
abbrev pub IsPutTo : Shape → List MapGroup → List GroupRef → ℕ → BodyWriter → List ℕ → BodyWriter → List ℕ → Type 0
IsPutTo shape groups refs at w0 out w now = (start : ℕ) → HasTaken shape.kinds.now start [] [] w0 → Goes shape.kinds.now start (tuples_at shape groups (take at refs)) [] out now w

pub none_put : (shape : Shape) (groups : List MapGroup) (refs : List GroupRef) (w : BodyWriter) (out : List ℕ) → IsPutTo shape groups refs 0 w out w out
none_put shape groups refs w out start has = record { more = []; is = sym (append-nil out); taken = has }

tuples_more : (shape : Shape) (groups : List MapGroup) (refs : List GroupRef) (at : ℕ) → at < length refs → tuples_at shape groups (take (at + 1) refs) ≡ tuples_at shape groups (take at refs) ++ tuple_of shape (group_of groups (get_or refs at no_ref)) ∷ []
tuples_more shape groups refs at lt = map_more (λ (r : GroupRef). tuple_of shape (group_of groups r)) refs at no_ref lt

-- the next one is
pub one_put : (shape : Shape) (groups : List MapGroup) (refs : List GroupRef) (at : ℕ) (w0 w v : BodyWriter) (out now next : List ℕ) → at < length refs → IsPutTo shape groups refs at w0 out w now
    → ((start : ℕ) (tuples : List Group) (written : List ℕ) → HasTaken shape.kinds.now start tuples written w → Goes shape.kinds.now start (tuples ++ tuple_of shape (group_of groups (get_or refs at no_ref)) ∷ []) written now next v)
    → IsPutTo shape groups refs (at + 1) w0 out v next
one_put shape groups refs at w0 w v out now next lt put more start has =
    let one = put start has in
    let two = more start (tuples_at shape groups (take at refs)) one.more one.taken in
    record {
      more = one.more ++ two.more;
      is = two.is ∙ ap (λ (bs : List ℕ). bs ++ two.more) one.is ∙ append_assoc out one.more two.more;
      taken = subst (λ (ts : List Group). HasTaken shape.kinds.now start ts (one.more ++ two.more) v) (sym (tuples_more shape groups refs at lt)) two.taken;
    }

-- the next one does not fit, nor do all
pub one_long : (shape : Shape) (groups : List MapGroup) (refs : List GroupRef) (at : ℕ) (w0 w : BodyWriter) (out now : List ℕ) → at < length refs → IsPutTo shape groups refs at w0 out w now
    → ((start : ℕ) (tuples : List Group) (written : List ℕ) → HasTaken shape.kinds.now start tuples written w → FitInBlocks shape.kinds.now start (tuples ++ tuple_of shape (group_of groups (get_or refs at no_ref)) ∷ []) → ⊥)
    → (start : ℕ) → HasTaken shape.kinds.now start [] [] w0 → FitInBlocks shape.kinds.now start (tuples_at shape groups refs) → ⊥
one_long shape groups refs at w0 w out now lt put long start has fit =
    let one = put start has in
    let front = tuples_at shape groups (take at refs) ++ tuple_of shape (group_of groups (get_or refs at no_ref)) ∷ [] in
    let later = tuples_at shape groups (drop (at + 1) refs) in
    let all : tuples_at shape groups refs ≡ front ++ later = ap (tuples_at shape groups) (sym (take-append-drop (at + 1) refs)) ∙ map-append (λ (r : GroupRef). tuple_of shape (group_of groups r)) (take (at + 1) refs) (drop (at + 1) refs)
    ∙ ap (λ (ts : List Group). ts ++ later) (tuples_more shape groups refs at lt) in
    long start (tuples_at shape groups (take at refs)) one.more one.taken (fit_front shape.kinds.now start front later (subst (FitInBlocks shape.kinds.now start) all fit))

-- all of them, and the end of the file
pub are_written : (shape : Shape) (groups : List MapGroup) (at : ℕ) (tuples : List Group) (old mid new : List ℕ) (w : BodyWriter) → AreTuplesOf shape groups tuples → (goes : Goes shape.kinds.now at tuples [] old mid w)
    → Ends shape.kinds.now at tuples goes.more mid new → AreWritten shape groups at old new
are_written shape groups at tuples old mid new w are goes ends = record {
  tuples = tuples;
  are = are;
  ends = record {
    more = goes.more ++ ends.more;
    is = ends.is ∙ ap (λ (bs : List ℕ). bs ++ ends.more) goes.is ∙ append_assoc old goes.more ends.more;
    body = ends.body;
    each = ends.each;
    short = ends.short;
  };
}
