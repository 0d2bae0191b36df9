-- What the participants are given.
use Rattle.agg_table.specs.Shown.{IsHashSeat}
use Rattle.std.proofs.Common.{◌≡◌, ◌≤◌, ◌+◌, ◌++◌, ℕ, suc, List, [], ◌∷◌, length, map, refl, subst, sym, ap, ◌∙◌, append_assoc, arith}
use Rattle.std.specs.List.{All, AllZip}
use Rattle.std.proofs.lemmas.List.{map-append}
use Rattle.std.proofs.lemmas.List.Elements.{All-cons, All-head, All-nil, All-tail, All-weaker}
use mathlib.Core.Option.{some}
use lib.ListN.{get_elem?}
use Rattle.par_model.specs.Plan.{Plan}
use Rattle.region_words.specs.Parts.{Owned}
use Rattle.plan_descriptor.specs.Planned.{HasPlan}
use Rattle.scan_claim.specs.Shown.{AreSeats, Belongs, draws_of, number_of}
use Rattle.scan_claim.specs.declared.claims.ClaimSeat.{ClaimSeat}
use Rattle.parallel_ctx.specs.declared.tokens.Hand.{Hand}
use Rattle.parallel_ctx.specs.declared.tokens.LeaderEnds.{LeaderEnds}
use Rattle.parallel_ctx.specs.declared.tokens.Seats.{Seats}
use Rattle.parallel_ctx.specs.declared.tokens.Shared.{Shared}
use Rattle.parallel_ctx.specs.declared.tokens.WorkerEnds.{WorkerEnds}
use Rattle.parallel_ctx.specs.Making.{AreDealt, AreRings, AreUnheardIn, AreUnused, claim_in, ends_in, firsts, hash_in}
use Rattle.agg_table.specs.declared.part.HashSeat.{HashSeat}
use Rattle.parallel_ctx.proofs.Passes.{AreHashes, dealt_callers, dealt_hashes}
use Rattle.parallel_ctx.proofs.Zips.{number_behind_first, number_from_none, number_next, number_of_place, place_next, place_of_first}
use Rattle.parallel_ctx.specs.Tokens.{AreNumbered, AreOneRing, AreSeated, AreUnheard, IsFresh, HasCallers, IsPrepared, number_in}

pub numbered-push : (n : ℕ) (hs : List Hand) (h : Hand) → AreNumbered n (map number_in hs) → h.seats.number ≡ n + length hs → AreNumbered n (map number_in (hs ++ h ∷ []))
numbered-push n [] h p e = (omega (arith, e), tt)
numbered-push n (x ∷ hs) h p e = (p.0, numbered-push (suc n) hs h p.1 (omega (arith, e)))

-- what was given and what is left, after one more
pub still : {A : Type 0} (f : Hand → A) (hs more : List Hand) (h : Hand) (left left' : List A)
    → more ≡ hs ++ h ∷ [] → left ≡ f h ∷ left' → map f more ++ left' ≡ map f hs ++ left
still f hs more h left left' e i =
    ap (λ m. map f m ++ left') e ∙ ap (λ m. m ++ left') (map-append f hs (h ∷ [])) ∙ append_assoc (map f hs) (f h ∷ []) left' ∙ ap (λ l. map f hs ++ l) (sym i)

pub count_hands : (hs : List Hand) → length (map ends_in hs) ≡ length hs
count_hands [] = refl
count_hands (h ∷ hs) = ap suc (count_hands hs)

one_rings : (hs : List Hand) (rs : List LeaderEnds) → AllZip AreRings (map ends_in hs) rs → AllZip AreOneRing hs rs
one_rings [] [] z = tt
one_rings [] (r ∷ rs) z = absurd z
one_rings (h ∷ hs) [] z = absurd z
one_rings (h ∷ hs) (r ∷ rs) z = (record { errors = z.0.errors; tuples = z.0.tuples }, one_rings hs rs z.1)

module _ (w : Shared) (plan : Plan) (toc : Owned) (here : toc.region ≡ w.region) (has : HasPlan toc.words plan) where
  abbrev HasToc : Hand → Type 0
  HasToc h = h.seats.toc ≡ toc

  abbrev Fresh : Hand → Type 0
  Fresh h = IsFresh plan w h.seats h.ends

  -- unused seats, with the numbers from n on
  abbrev AreClaims : ℕ → List ClaimSeat → Type 0
  AreClaims n cs = (k : ℕ) (s : ClaimSeat) → get_elem? cs k ≡ some s → Belongs w.claims s × (number_of s ≡ n + k) × (draws_of s ≡ [])

  seated : (s : Seats) → s.toc ≡ toc → Belongs w.claims s.claim → number_of s.claim ≡ s.number → draws_of s.claim ≡ [] → IsHashSeat w.region s.number w.hash s.hash → AreSeated plan w s
  seated s e b n d x = record {
    here = ap (λ (t : Owned). t.region) e ∙ here;
    plan_is = subst (λ (t : Owned). HasPlan t.words plan) (sym e) has;
    claim = b;
    number = n;
    drawn = d;
    hash = x;
  }

  fresh_hands : (n : ℕ) (hs : List Hand) → All HasToc hs → AreNumbered n (map number_in hs) → AreClaims n (map claim_in hs) → AreHashes w.region w.hash n (map hash_in hs) → All (AreUnused w.region) (map ends_in hs) → All Fresh hs
  fresh_hands n [] t num cl x u = All-nil Fresh
  fresh_hands n (h ∷ hs) t num cl x u =
      let mine = cl 0 h.seats.claim refl in
      let un = All-head (AreUnused w.region) h.ends (map ends_in hs) u in
      let same = number_of_place (number_of h.seats.claim) n h.seats.number mine.1 num.0 in
      let at = place_of_first n h.seats.number num.0 in
      All-cons Fresh h hs
      (record { seats = seated h.seats (All-head HasToc h hs t) mine.0 same mine.2 (subst (λ (i : ℕ). IsHashSeat w.region i w.hash h.seats.hash) at (x 0 h.seats.hash refl)); errors = un.errors; tuples = un.tuples })
      (fresh_hands (suc n) hs (All-tail HasToc h hs t) num.1
      (λ k s e. let m = cl (suc k) s e in (m.0, number_next (number_of s) n k m.1, m.2))
      (λ k o e. subst (λ (i : ℕ). IsHashSeat w.region i w.hash o) (sym (place_next n k)) (x (suc k) o e))
      (All-tail (AreUnused w.region) h.ends (map ends_in hs) u))

  pub prepared : (leader : Seats) (hands : List Hand) (receivers : List LeaderEnds) (seats : List ClaimSeat) (hashes : List HashSeat) (ends : List WorkerEnds)
      → AreSeats w.claims seats → ((k : ℕ) (s : ClaimSeat) → get_elem? seats k ≡ some s → draws_of s ≡ [])
      → length ends ≤ 64 → leader.toc ≡ toc → leader.number ≡ 0
      → All HasToc hands → AreNumbered 1 (map number_in hands) → leader.claim ∷ map claim_in hands ≡ seats → leader.hash ∷ map hash_in hands ≡ firsts hashes (length ends + 1) → map ends_in hands ≡ ends → AreDealt w.region (length ends + 1) w.hash hashes
      → All (AreUnused w.region) ends → All (AreUnheardIn w.region) receivers → AllZip AreRings ends receivers
      → IsPrepared (record { plan = plan; shared = w; leader = leader; hands = hands; receivers = receivers })
  prepared leader hands receivers seats hashes ends are drawn few t z tocs numbers claims given same dealt unused unheard rings =
      let whole : AreClaims 0 (leader.claim ∷ map claim_in hands) = subst (AreClaims 0) (sym claims) (λ k s e. let m = are.1 k s e in (m.0, number_from_none (number_of s) k m.1, drawn k s e)) in
      let mine = whole 0 leader.claim refl in
      let all : AreHashes w.region w.hash 0 (leader.hash ∷ map hash_in hands) = subst (AreHashes w.region w.hash 0) (sym given) (dealt_hashes w.region w.hash (length ends + 1) hashes dealt) in
      let as_many : length ends + 1 ≡ suc (length hands) = (let n = count_hands hands in let m = ap (λ l. length l) same in omega (arith, n, m)) in
      record {
        few = let n = count_hands hands in let m = ap (λ l. length l) same in omega (arith, few, n, m);
        leader = seated leader t mine.0 (mine.1 ∙ sym z) mine.2 (subst (λ (i : ℕ). IsHashSeat w.region i w.hash leader.hash) (sym z) (all 0 leader.hash refl));
        hands = fresh_hands 1 hands tocs numbers (λ k s e. let m = whole (suc k) s e in (m.0, number_behind_first (number_of s) k m.1, m.2)) (λ k o e. subst (λ (i : ℕ). IsHashSeat w.region i w.hash o) (sym (place_next 0 k)) (all (suc k) o e)) (subst (All (AreUnused w.region)) (sym same) unused);
        numbers = numbers;
        receivers = All-weaker (AreUnheardIn w.region) (AreUnheard w) (λ q u. record { errors = u.errors; tuples = u.tuples }) receivers unheard;
        rings = one_rings hands receivers (subst (λ (es : List WorkerEnds). AllZip AreRings es receivers) (sym same) rings);
        seats = subst (AreSeats w.claims) (sym claims) are;
        hash = subst (λ (n : ℕ). HasCallers n w.hash) as_many (dealt_callers w.region w.hash (length ends + 1) hashes dealt);
      }
