-- Asking for one key, for the callers of a loader.
use Rattle.std.proofs.Common.{◌≡◌, ℕ, Bool, true, ◌∙◌, [], ◌∷◌, ◌++◌, ◌&&◌, List, ap, append-nil, append_assoc, refl, sym, subst}
use Rattle.std.specs.Prelude.{None}
use Rattle.std.proofs.lemmas.List.Folds.{list_all-append}
use Rattle.lock_book.specs.declared.kept.Kept.{Ghosts}
use Rattle.lock_book.specs.declared.shelf.Pass.{Pass}
use Rattle.lock_book.specs.History.{StartsWith, entry}
use Rattle.lock_book.specs.Shown.{number_of}
use Rattle.lock_book.specs.Told.{Adds}
use Rattle.lock_book.proofs.Histories.{at_place, starts_snoc, starts_trans}
use Rattle.single_flight.specs.declared.history.CellState.{CellState}
use Rattle.single_flight.specs.declared.history.CellCall.{CellCall}
use Rattle.single_flight.specs.declared.history.CellReply.{CellReply}
use Rattle.single_flight.specs.declared.cell.Ask.{Ask}
use Rattle.single_flight.specs.declared.cell.Cell.{Cell}
use Rattle.single_flight.specs.Laws.{Step, is_question, load_in}
use Rattle.single_flight.specs.Shown.{Asked, history_of, load_of, own_of}

module _ {L V : Type 0} {g : Ghosts (Cell L V) (Unit {0}) (Ask V) (CellReply V) ℕ (CellState V) (CellCall V) (CellReply V)} where
  -- no question yet
  pub nothing_asked : (p : Pass (Cell L V) (Unit {0}) (Ask V) (CellReply V) ℕ (CellState V) (CellCall V) (CellReply V) g) (key : ℕ) → Asked key p p
  nothing_asked p key = record {
    begins = ([], sym (append-nil (history_of p key)));
    more = [];
    own = sym (append-nil (own_of p key));
    questions = refl;
    others_seen = λ k ne. refl;
    others_own = λ k ne. refl;
  }

  -- one question
  pub one_question : {legal : ℕ → ℕ → CellState V → CellCall V → CellReply V → CellState V → Type 0} {opens : List (ℕ × CellState V)} (p q : Pass (Cell L V) (Unit {0}) (Ask V) (CellReply V) ℕ (CellState V) (CellCall V) (CellReply V) g) (key : ℕ) (c : CellCall V) (r : CellReply V) → Adds legal opens (number_of p) (history_of p) (own_of p) (history_of q) (own_of q) key c r → is_question c ≡ true → Asked key p q
  one_question p q key c r a is = record {
    begins = subst (λ (es : List (Step V)). StartsWith es (history_of p key)) (sym a.ends) (starts_snoc a.before (history_of p key) (entry (number_of p) c r a.after ∷ []) a.begins);
    more = entry (number_of p) c r a.after ∷ [];
    own = a.mine_grows;
    questions = ap (λ (b : Bool). b && true) is;
    others_seen = a.others_seen;
    others_own = a.others_mine;
  }

  -- questions after others
  pub then_asked : (p q r : Pass (Cell L V) (Unit {0}) (Ask V) (CellReply V) ℕ (CellState V) (CellCall V) (CellReply V) g) (key : ℕ) → Asked key p q → Asked key q r → Asked key p r
  then_asked p q r key a b = record {
    begins = starts_trans (history_of r key) (history_of q key) (history_of p key) b.begins a.begins;
    more = a.more ++ b.more;
    own = b.own ∙ (ap (λ (es : List (Step V)). es ++ b.more) a.own ∙ append_assoc (own_of p key) a.more b.more);
    questions = list_all-append (λ (y : Step V). is_question y.call) a.more b.more ∙ ap (λ (z : Bool × Bool). z.0 && z.1) (λ i. (a.questions i, b.questions i));
    others_seen = λ k ne. b.others_seen k ne ∙ a.others_seen k ne;
    others_own = λ k ne. b.others_own k ne ∙ a.others_own k ne;
  }

  -- what was seen and called stays
  pub then_same : (p q r : Pass (Cell L V) (Unit {0}) (Ask V) (CellReply V) ℕ (CellState V) (CellCall V) (CellReply V) g) (key : ℕ) → Asked key p q → ((k : ℕ) → history_of r k ≡ history_of q k) → ((k : ℕ) → own_of r k ≡ own_of q k) → Asked key p r
  then_same p q r key a seen own = record {
    begins = subst (λ (es : List (Step V)). StartsWith es (history_of p key)) (sym (seen key)) a.begins;
    more = a.more;
    own = own key ∙ a.own;
    questions = a.questions;
    others_seen = λ k ne. seen k ∙ a.others_seen k ne;
    others_own = λ k ne. own k ∙ a.others_own k ne;
  }

  -- a caller that has no load has none after it asked for a key, if it has none of this key
  pub free_after : (p q : Pass (Cell L V) (Unit {0}) (Ask V) (CellReply V) ℕ (CellState V) (CellCall V) (CellReply V) g) (key : ℕ) → Asked key p q → ((k : ℕ) → load_of p k ≡ None) → load_of q key ≡ None → (k : ℕ) → load_of q k ≡ None
  free_after p q key a free here = at_place (λ k. load_of q k ≡ None) key here (λ k ne. ap load_in (a.others_own k ne) ∙ free k)
