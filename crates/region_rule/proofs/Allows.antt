-- What a table under the rule asks of a step. To take a slot out, and to copy a word, is no event of the region; each
-- other step is one. Once for each way to step.
use Rattle.std.proofs.Common.{◌≡◌, ◌≢◌, ◌⊎◌, ℕ, zero, suc, ◌+◌, ◌<◌, ◌≤◌, List, [], ◌∷◌, ◌++◌, set, get_or, length, Some, refl, sym, ap, subst, ◌∙◌, ⊎_elim, arith, length-set}
use Rattle.std.specs.List.{AllByRecursion}
use mathlib.Core.Option as opt
use mathlib.Core.Option.{some, none, some-injective}
use mathlib.Core.Logic.{dite}
use native.Mathlib.Decide.{ℕ_discrete}
use lib.ListN.{get_elem?}
use Rattle.atomic_table.specs.Table.{State, Allows, Splits, Joins, keeps, takes, gives}
use Rattle.atomic_table.proofs.Lists.{at_map, set_here, set_else, set_again}
use Rattle.word_map.specs.WordMap.{WordMap, at, Has}
use Rattle.ring_rule.specs.Ring.{Sending, Receiving}
use Rattle.ring_rule.proofs.Stored.{has_at}
use Rattle.region_rule.specs.View.{View, Own, Frozen, Sender, Receiver, Done, Spent, Holds, MayShare, Olds}
use Rattle.region_rule.specs.Sound.{World, Sees, Sound}
use Rattle.region_rule.specs.Steps.{Event, Happens, Finds, Reached, seen_anew, written_anew, cut_anew, joined_anew}
use Rattle.region_rule.specs.Places.{Token, idle, holding, copying, taking, views_of, InSlot, InWord, MayTake, Copied, MayHave, Clear, Nobody, Placed, Ruled}
use Rattle.region_rule.proofs.Runs.{reaches, reached_sound, reached-length}
use Rattle.region_rule.proofs.Takers.{take_holds, word_holds, slot_holds, sole_holds, one_taker, word_free, slot_free, one_place, sole_free}
use Rattle.region_rule.proofs.Moves.{map_set, map_snoc, Away, copied_moves, not_out, nothing_out, nothing_copied, touched, viewed, appended, free_back}

pub set_same : (l : List ℕ) (i : ℕ) → set l i (get_or l i 0) ≡ l
set_same [] i = refl
set_same (x ∷ xs) zero = refl
set_same (x ∷ xs) (suc i) = ap (λ l. x ∷ l) (set_same xs i)

there : (l : List ℕ) (i : ℕ) → i < length l → get_elem? l i ≡ some (get_or l i 0)
there [] i h = absurd (omega arith)
there (x ∷ xs) zero h = refl
there (x ∷ xs) (suc i) h = there xs i (omega arith)

-- the run's world
abbrev pub world_of : List ℕ → List Token → World
world_of words ts = record { words = words; views = views_of ts }

-- a token of the table is one of the world
sees : (ts : List Token) (words : List ℕ) (i : ℕ) (t : Token) → get_elem? ts i ≡ some t → Sees (world_of words ts) i t.view
sees ts words i t e = at_map (λ (z : Token). z.view) ts i t e

-- what two tokens that hold one word share
shared : (words : List ℕ) (s : State ℕ Token) (id i k : ℕ) (h g : Token) → Sound (world_of words s.views) → get_elem? s.views id ≡ some h → get_elem? s.views i ≡ some g → i ≢ id → Holds h.view k → Holds g.view k → MayShare words h.view g.view k
shared words s id i k h g sound here its other mine yours = sound.apart id i h.view g.view (λ e. other (sym e)) (sees s.views words id h here) (sees s.views words i g its) k mine yours

-- the others do not care for a slot that a token may take
taker_away : (count : ℕ) (words : List ℕ) (s : State ℕ Token) (id k : ℕ) (h : Token) → Sound (world_of words s.views) → Placed count words s → get_elem? s.views id ≡ some h → MayTake h.view k
    → (i : ℕ) (g : Token) → i ≢ id → get_elem? s.views i ≡ some g → Away g k
taker_away count words s id k h sound t here may i g other its =
    let honest = sound.honest id h.view (sees s.views words id h here) in
    let its_honest = sound.honest i g.view (sees s.views words i g its) in
    let mine = take_holds words h.view k honest may in (
      λ m. one_taker words h.view g.view k honest its_honest may m (shared words s id i k h g sound here its other mine (take_holds words g.view k its_honest m)),
      λ low high.
          let sole = (t.copies i g its k low high).0 in sole_free words h.view g.view k sole (shared words s id i k h g sound here its other mine (sole_holds g.view k sole)),
    )

-- nor does any look for its word in the table's words, but those that copy it back
taker_alone : (words : List ℕ) (s : State ℕ Token) (id k : ℕ) (h : Token) → Sound (world_of words s.views) → get_elem? s.views id ≡ some h → MayTake h.view k → (InWord h.view k → ⊥)
    → (i : ℕ) (g : Token) → get_elem? s.views i ≡ some g → InWord g.view k → ⊥
taker_alone words s id k h sound here may single i g its c = dite (ℕ_discrete i id)
    (λ (e : i ≡ id). single (subst (λ (z : Token). InWord z.view k) (some-injective g h (sym its ∙ ap (get_elem? s.views) e ∙ here)) c))
    (λ (other : i ≢ id).
    let honest = sound.honest id h.view (sees s.views words id h here) in
    let its_honest = sound.honest i g.view (sees s.views words i g its) in
    word_free words h.view g.view k may c (shared words s id i k h g sound here its other (take_holds words h.view k honest may) (word_holds words g.view k its_honest c)))

-- nobody has out what a token may take and has not
taker_free : (count : ℕ) (words : List ℕ) (s : State ℕ Token) (id k : ℕ) (h : Token) → Sound (world_of words s.views) → Placed count words s → get_elem? s.views id ≡ some h → MayTake h.view k → Clear h.out k → Nobody s.views k
taker_free count words s id k h sound t here may clear j f e = dite (ℕ_discrete j id)
    (λ (y : j ≡ id). let same : f ≡ h = some-injective f h (sym e ∙ ap (get_elem? s.views) y ∙ here) in subst (λ (g : Token). Clear g.out k) (sym same) clear)
    (λ (y : j ≢ id). not_out words f.view k f.out (taker_away count words s id k h sound t here may j f y e).0 (t.outs j f e))

some_home : (x y : ℕ) → some (some x) ≡ some (some y) → x ≡ y
some_home x y e = some-injective x y (some-injective (some x) (some y) e)

-- a token takes one more slot out
pub takes_one : (count id k : ℕ) (u : View) (out : List (ℕ × ℕ)) (from n : ℕ) (s : State ℕ Token) → Ruled count s → get_elem? s.views id ≡ some (holding u out from n) → MayTake u k → k < count → Clear out k
    → (from ≤ k → k < from + n → ⊥)
    → (x : ℕ) × (get_elem? s.homes k ≡ some (some x)) × Ruled count record { words = s.words; homes = set s.homes k none; views = set s.views id (holding u ((k, x) ∷ out) from n) }
takes_one count id k u out from n s r here may inside clear fresh = (
  x,
  home.1,
  (
    r.0,
    subst (Reached count r.0) (sym (map_set s.views id (holding u ((k, x) ∷ out) from n) ∙ set_again (views_of s.views) id u (sees s.views r.0 id (holding u out from n) here))) r.1,
    touched count r.0 r.0 s.words (set s.homes k none) s id k (holding u out from n) (holding u ((k, x) ∷ out) from n) t here t.counted (λ q z. refl) (λ q z. refl) (λ q z. set_else s.homes k q none z)
        (λ q c. c) (λ q c. c) (λ q z c. c.1)
        ((may, found), t.outs id (holding u out from n) here)
        (λ q low high. let old = t.copies id (holding u out from n) here q low high in
        (old.0, λ y f. copied_moves u s.words s.words s.homes (set s.homes k none) q y refl (set_else s.homes k q none (λ z. fresh (subst (λ (b : ℕ). from ≤ b) z low) (subst (λ (b : ℕ). b < from + n) z high))) (old.1 y f)))
        (taker_away count r.0 s id k (holding u out from n) sound t here may)
        (λ j g y e c f. t.in_word j g k y e c f)
        (λ j g y rests e c f. absurd (rests.0 refl))
        (λ rests low. absurd (rests.0 refl)),
  ),
)
  where
    sound : Sound (world_of r.0 s.views)
    sound = reached_sound count r.0 (views_of s.views) r.1

    t : Placed count r.0 s
    t = r.2

    free : Nobody s.views k
    free = taker_free count r.0 s id k (holding u out from n) (reached_sound count r.0 (views_of s.views) r.1) r.2 here may clear

    home : (x : ℕ) × (get_elem? s.homes k ≡ some (some x))
    home = r.2.filled k inside (taker_free count r.0 s id k (holding u out from n) (reached_sound count r.0 (views_of s.views) r.1) r.2 here may clear)

    x : ℕ
    x = (r.2.filled k inside (taker_free count r.0 s id k (holding u out from n) (reached_sound count r.0 (views_of s.views) r.1) r.2 here may clear)).0

    found : InSlot u k → get_elem? r.0 k ≡ some x
    found c =
        let y = has_at r.0 k (subst (λ (b : ℕ). k < b) (sym (reached-length count r.0 (views_of s.views) r.1)) inside) in
        let same = some_home y.0 x (sym (t.at_home id (holding u out from n) k y.0 here c free y.1) ∙ home.1) in
        y.1 ∙ ap some same

-- TO TAKE A SLOT OUT IS NO EVENT
pub take_allows : (count slots id i k : ℕ) (u : View) (from n : ℕ) → MayTake u k → k < count → (from ≤ k → k < from + n → ⊥)
    → Allows (Ruled count) slots id (copying u from n, []) i (λ f. f) (λ f after. (x : ℕ) × (after ≡ (taking u k x from n, (k, x) ∷ [])))
take_allows count slots id i k u from n may inside fresh s r more here fits =
    let g = takes_one count id k u [] from n s r here may inside tt fresh in (
      taking u k g.0 from n,
      takes k g.0,
      g.1,
      subst (λ (ws : List ℕ). Ruled count record { words = ws; homes = set s.homes k none; views = set s.views id (taking u k g.0 from n) }) (sym (set_same s.words i)) g.2,
      (g.0, refl),
    )

-- TO BEGIN TO COPY IS NONE EITHER
pub begin_allows : (count slots id i from : ℕ) (u : View) → Allows (Ruled count) slots id (idle u, []) i (λ f. f) (λ f after. after ≡ (copying u from 0, []))
begin_allows count slots id i from u s r more here fits =
    let t : Placed count r.0 s = r.2 in
    let table = subst (λ (ws : List ℕ). Placed count r.0 record { words = ws; homes = s.homes; views = set s.views id (copying u from 0) }) (sym (set_same s.words i))
    (viewed count r.0 s id from (idle u) u t here refl (λ q z c free f. t.at_home id (idle u) q z here c free f) (λ q z c f. t.in_word id (idle u) q z here c f)) in (
      copying u from 0,
      keeps,
      tt,
      (r.0, subst (Reached count r.0) (sym (map_set s.views id (copying u from 0) ∙ set_again (views_of s.views) id u (sees s.views r.0 id (idle u) here))) r.1, table),
      refl,
    )

-- what a step of the region leaves where it was
abbrev pub Under : View → View → Type 0
Under v u = ((q : ℕ) → InSlot v q → InSlot u q) × ((q : ℕ) → InWord v q → InWord u q)

-- the value of an owned slot, or of a cell, that is out
out_value : (count : ℕ) (words : List ℕ) (s : State ℕ Token) (id k x from n : ℕ) (u : View) (out : List (ℕ × ℕ)) → Placed count words s → get_elem? s.views id ≡ some (holding u ((k, x) ∷ out) from n) → MayTake u k × (InSlot u k → get_elem? words k ≡ some x)
out_value count words s id k x from n u out t here = (t.outs id (holding u ((k, x) ∷ out) from n) here).0

-- what is out but not at k
clear_front : (k x : ℕ) (out : List (ℕ × ℕ)) (q : ℕ) → q ≢ k → Clear out q → Clear ((k, x) ∷ out) q
clear_front k x out q n c = ((λ e. n (sym e)), c)

-- a token gives the slot in front back as it was: a load
pub loads_one : (count id k x : ℕ) (u : View) (out : List (ℕ × ℕ)) (Then : View → Type 0) (s : State ℕ Token) → Ruled count s → length s.homes ≡ count → get_elem? s.views id ≡ some (holding u ((k, x) ∷ out) 0 0) → InSlot u k → k < count
    → ((w : World) → Sound w → Sees w id u → Finds w k x
    → (v : View) × (e : Event) × Happens e w (seen_anew w id v) × Under v u × (AllByRecursion (MayHave w.words u) out → AllByRecursion (MayHave w.words v) out) × Then v)
    → (v : View) × Then v × Ruled count record { words = s.words; homes = set s.homes k (some x); views = set s.views id (holding v out 0 0) }
loads_one count id k x u out Then s r wide here slot inside go =
    let sound = reached_sound count r.0 (views_of s.views) r.1 in
    let t : Placed count r.0 s = r.2 in
    let old : Token = holding u ((k, x) ∷ out) 0 0 in
    let had = out_value count r.0 s id k x 0 0 u out t here in
    let is = had.1 slot in
    let g = go (world_of r.0 s.views) sound (sees s.views r.0 id old here) is in
    let deep : k < length s.homes = subst (λ (b : ℕ). k < b) (sym wide) inside in (
      g.0,
      g.5,
      (
        r.0,
        subst (Reached count r.0) (sym (map_set s.views id (holding g.0 out 0 0))) (reaches count r.0 (views_of s.views) g.1 r.0 _ r.1 g.2),
        touched count r.0 r.0 s.words (set s.homes k (some x)) s id k old (holding g.0 out 0 0) t here t.counted (λ q z. refl) (λ q z. refl) (λ q z. set_else s.homes k q (some x) z)
            g.3.0 g.3.1 (clear_front k x out) (g.4 (t.outs id old here).1) (λ q low high. absurd (omega arith))
            (taker_away count r.0 s id k old sound t here had.0)
            (λ j h y e c f. t.in_word j h k y e c f)
            (λ j h y rests e c f. set_here s.homes k (some x) deep ∙ ap some (sym is ∙ f))
            (λ rests low. (x, set_here s.homes k (some x) deep)),
      ),
    )

-- a token gives the slot in front back with another value: a store
pub stores_one : (count id k x y : ℕ) (u : View) (out : List (ℕ × ℕ)) (Then : View → Type 0) (s : State ℕ Token) → Ruled count s → length s.homes ≡ count → get_elem? s.views id ≡ some (holding u ((k, x) ∷ out) 0 0) → InSlot u k → k < count
    → ((w : World) → Sound w → Sees w id u
    → (v : View) × (e : Event) × Happens e w (written_anew w k y id v) × Under v u × (AllByRecursion (MayHave w.words u) out → AllByRecursion (MayHave (set w.words k y) v) out) × Then v)
    → (v : View) × Then v × Ruled count record { words = s.words; homes = set s.homes k (some y); views = set s.views id (holding v out 0 0) }
stores_one count id k x y u out Then s r wide here slot inside go =
    let sound = reached_sound count r.0 (views_of s.views) r.1 in
    let t : Placed count r.0 s = r.2 in
    let old : Token = holding u ((k, x) ∷ out) 0 0 in
    let had = out_value count r.0 s id k x 0 0 u out t here in
    let g = go (world_of r.0 s.views) sound (sees s.views r.0 id old here) in
    let deep : k < length s.homes = subst (λ (b : ℕ). k < b) (sym wide) inside in
    let low : k < length r.0 = subst (λ (b : ℕ). k < b) (sym (reached-length count r.0 (views_of s.views) r.1)) inside in (
      g.0,
      g.5,
      (
        set r.0 k y,
        subst (Reached count (set r.0 k y)) (sym (map_set s.views id (holding g.0 out 0 0))) (reaches count r.0 (views_of s.views) g.1 (set r.0 k y) _ r.1 g.2),
        touched count r.0 (set r.0 k y) s.words (set s.homes k (some y)) s id k old (holding g.0 out 0 0) t here t.counted (λ q z. set_else r.0 k q y z) (λ q z. refl) (λ q z. set_else s.homes k q (some y) z)
            g.3.0 g.3.1 (clear_front k x out) (g.4 (t.outs id old here).1) (λ q a b. absurd (omega arith))
            (taker_away count r.0 s id k old sound t here had.0)
            (λ j h z e c f. absurd (taker_alone r.0 s id k old sound here had.0 (λ w. one_place u k slot w) j h e c))
            (λ j h z rests e c f. set_here s.homes k (some y) deep ∙ ap some (sym (set_here r.0 k y low) ∙ f))
            (λ rests a. (y, set_here s.homes k (some y) deep)),
      ),
    )

-- TO GIVE A SLOT BACK AS IT WAS IS A LOAD
pub load_back_allows : (count slots id i k x : ℕ) (u : View) (Then : View → Type 0) → InSlot u k → k < count → slots ≡ count
    → ((w : World) → Sound w → Sees w id u → Finds w k x → (v : View) × (e : Event) × Happens e w (seen_anew w id v) × Under v u × Then v)
    → Allows (Ruled count) slots id (taking u k x 0 0, (k, x) ∷ []) i (λ f. f) (λ f after. Then after.0.view × (after ≡ (idle after.0.view, [])))
load_back_allows count slots id i k x u Then slot inside even go s r more here fits =
    let g = loads_one count id k x u [] Then s r (more ∙ even) here slot inside (λ w sound sees found. let h = go w sound sees found in (h.0, h.1, h.2, h.3, (λ a. a), h.4)) in (
      idle g.0,
      gives,
      tt,
      subst (λ (ws : List ℕ). Ruled count record { words = ws; homes = set s.homes k (some x); views = set s.views id (idle g.0) }) (sym (set_same s.words i)) g.2,
      (g.1, refl),
    )

-- TO GIVE IT BACK WITH ANOTHER VALUE IS A STORE
pub store_back_allows : (count slots id i k x y : ℕ) (u : View) (Then : View → Type 0) → InSlot u k → k < count → slots ≡ count
    → ((w : World) → Sound w → Sees w id u → (v : View) × (e : Event) × Happens e w (written_anew w k y id v) × Under v u × Then v)
    → Allows (Ruled count) slots id (taking u k x 0 0, (k, y) ∷ []) i (λ f. f) (λ f after. Then after.0.view × (after ≡ (idle after.0.view, [])))
store_back_allows count slots id i k x y u Then slot inside even go s r more here fits =
    let g = stores_one count id k x y u [] Then s r (more ∙ even) here slot inside (λ w sound sees. let h = go w sound sees in (h.0, h.1, h.2, h.3, (λ a. a), h.4)) in (
      idle g.0,
      gives,
      tt,
      subst (λ (ws : List ℕ). Ruled count record { words = ws; homes = set s.homes k (some y); views = set s.views id (idle g.0) }) (sym (set_same s.words i)) g.2,
      (g.1, refl),
    )

-- A LOAD OF A TABLE'S WORD IN WHICH THE REGION'S WORD LIES
pub load_allows : (count slots id k : ℕ) (u : View) (Then : ℕ → View → Type 0) → InWord u k → k < count
    → ((w : World) (x : ℕ) → Sound w → Sees w id u → Finds w k x → (v : View) × (e : Event) × Happens e w (seen_anew w id v) × Under v u × Then x v)
    → Allows (Ruled count) slots id (idle u, []) k (λ n. n) (λ n after. Then n after.0.view × (after ≡ (idle after.0.view, [])))
load_allows count slots id k u Then word inside go s r more here fits =
    let sound = reached_sound count r.0 (views_of s.views) r.1 in
    let t : Placed count r.0 s = r.2 in
    let y = has_at r.0 k (subst (λ (b : ℕ). k < b) (sym (reached-length count r.0 (views_of s.views) r.1)) inside) in
    let low : k < length s.words = subst (λ (b : ℕ). k < b) (sym t.counted) inside in
    let same : y.0 ≡ get_or s.words k 0 = some-injective y.0 (get_or s.words k 0) (sym (t.in_word id (idle u) k y.0 here word y.1) ∙ there s.words k low) in
    let g = go (world_of r.0 s.views) (get_or s.words k 0) sound (sees s.views r.0 id (idle u) here) (y.1 ∙ ap some same) in
    let table = subst (λ (ws : List ℕ). Placed count r.0 record { words = ws; homes = s.homes; views = set s.views id (idle g.0) }) (sym (set_same s.words k))
    (viewed count r.0 s id 0 (idle u) g.0 t here refl (λ q z c free f. t.at_home id (idle u) q z here (g.3.0 q c) free f) (λ q z c f. t.in_word id (idle u) q z here (g.3.1 q c) f)) in (
      idle g.0,
      keeps,
      tt,
      (r.0, subst (Reached count r.0) (sym (map_set s.views id (idle g.0))) (reaches count r.0 (views_of s.views) g.1 r.0 _ r.1 g.2), table),
      (g.4, refl),
    )

-- what an owner has copied lies in the table's words, what joined ends have copied in the slots
abbrev pub CopiesOut : View → Type 0
CopiesOut (Own m o) = Unit {0}
CopiesOut v = ⊥

abbrev pub CopiesIn : View → Type 0
CopiesIn (Done m s q) = Unit {0}
CopiesIn v = ⊥

-- what a step leaves where it was, or has copied
abbrev pub Within : View → ℕ → ℕ → View → Type 0
Within u from n v = ((q : ℕ) → InSlot v q → InSlot u q ⊎ (CopiesIn u × (from ≤ q) × (q < from + n))) × ((q : ℕ) → InWord v q → InWord u q ⊎ (CopiesOut u × (from ≤ q) × (q < from + n)))

copied_out : (u : View) (table : List ℕ) (homes : List (opt.Option ℕ)) (q x : ℕ) → CopiesOut u → Copied u table homes q x → get_elem? table q ≡ some x
copied_out (Own m o) table homes q x i c = c
copied_out (Frozen m) table homes q x i c = absurd i
copied_out (Sender a b) table homes q x i c = absurd i
copied_out (Receiver a b) table homes q x i c = absurd i
copied_out (Done m a b) table homes q x i c = absurd i
copied_out Spent table homes q x i c = absurd i

copied_in : (u : View) (table : List ℕ) (homes : List (opt.Option ℕ)) (q x : ℕ) → CopiesIn u → Copied u table homes q x → get_elem? homes q ≡ some (some x)
copied_in (Own m o) table homes q x i c = absurd i
copied_in (Frozen m) table homes q x i c = absurd i
copied_in (Sender a b) table homes q x i c = absurd i
copied_in (Receiver a b) table homes q x i c = absurd i
copied_in (Done m a b) table homes q x i c = c
copied_in Spent table homes q x i c = absurd i

-- so it lies where the token will look for it
in_slots : (count : ℕ) (words : List ℕ) (s : State ℕ Token) (id from n : ℕ) (u v : View) → Placed count words s → get_elem? s.views id ≡ some (copying u from n) → Within u from n v
    → (q x : ℕ) → InSlot v q → Nobody s.views q → get_elem? words q ≡ some x → get_elem? s.homes q ≡ some (some x)
in_slots count words s id from n u v t here within q x c free f = ⊎_elim
    (λ (p : InSlot u q). t.at_home id (copying u from n) q x here p free f)
    (λ (p : CopiesIn u × (from ≤ q) × (q < from + n)). copied_in u s.words s.homes q x p.0 ((t.copies id (copying u from n) here q p.1 p.2).1 x f))
    (within.0 q c)

in_words : (count : ℕ) (words : List ℕ) (s : State ℕ Token) (id from n : ℕ) (u v : View) → Placed count words s → get_elem? s.views id ≡ some (copying u from n) → Within u from n v
    → (q x : ℕ) → InWord v q → get_elem? words q ≡ some x → get_elem? s.words q ≡ some x
in_words count words s id from n u v t here within q x c f = ⊎_elim
    (λ (p : InWord u q). t.in_word id (copying u from n) q x here p f)
    (λ (p : CopiesOut u × (from ≤ q) × (q < from + n)). copied_out u s.words s.homes q x p.0 ((t.copies id (copying u from n) here q p.1 p.2).1 x f))
    (within.1 q c)

-- A LOAD WHICH FINDS NOTHING OF USE: the event is one of word k, the table's word is any
pub look_allows : (count slots id i k : ℕ) (u : View) (from n : ℕ) (Then : View → Type 0) → k < count
    → ((w : World) (x : ℕ) → Sound w → Sees w id u → Finds w k x → (v : View) × (e : Event) × Happens e w (seen_anew w id v) × Within u from n v × Then v)
    → Allows (Ruled count) slots id (copying u from n, []) i (λ f. f) (λ f after. Then after.0.view × (after ≡ (idle after.0.view, [])))
look_allows count slots id i k u from n Then inside go s r more here fits =
    let sound = reached_sound count r.0 (views_of s.views) r.1 in
    let t : Placed count r.0 s = r.2 in
    let y = has_at r.0 k (subst (λ (b : ℕ). k < b) (sym (reached-length count r.0 (views_of s.views) r.1)) inside) in
    let g = go (world_of r.0 s.views) y.0 sound (sees s.views r.0 id (copying u from n) here) y.1 in
    let table = subst (λ (ws : List ℕ). Placed count r.0 record { words = ws; homes = s.homes; views = set s.views id (idle g.0) }) (sym (set_same s.words i))
    (viewed count r.0 s id 0 (copying u from n) g.0 t here refl (in_slots count r.0 s id from n u g.0 t here g.3) (in_words count r.0 s id from n u g.0 t here g.3)) in (
      idle g.0,
      keeps,
      tt,
      (r.0, subst (Reached count r.0) (sym (map_set s.views id (idle g.0))) (reaches count r.0 (views_of s.views) g.1 r.0 _ r.1 g.2), table),
      (g.4, refl),
    )

-- A STORE IN A TABLE'S WORD IN WHICH THE REGION'S WORD LIES
pub store_allows : (count slots id k n : ℕ) (u : View) (Then : View → Type 0) → InWord u k → k < count
    → ((w : World) → Sound w → Sees w id u → (v : View) × (e : Event) × Happens e w (written_anew w k n id v) × Under v u × Then v)
    → Allows (Ruled count) slots id (idle u, []) k (λ _. n) (λ _ after. Then after.0.view × (after ≡ (idle after.0.view, [])))
store_allows count slots id k n u Then word inside go s r more here fits =
    let g = go (world_of r.0 s.views) sound (sees s.views r.0 id (idle u) here) in
    let low : k < length s.words = subst (λ (b : ℕ). k < b) (sym t.counted) inside in
    let deep : k < length r.0 = subst (λ (b : ℕ). k < b) (sym (reached-length count r.0 (views_of s.views) r.1)) inside in
    let table = touched count r.0 (set r.0 k n) (set s.words k n) s.homes s id k (idle u) (idle g.0) t here (length-set {A = ℕ} s.words k n ∙ t.counted)
    (λ q z. set_else r.0 k q n z) (λ q z. set_else s.words k q n z) (λ q z. refl)
    g.3.0 g.3.1 (λ q z c. c) (nothing_out (set r.0 k n) g.0 0) (nothing_copied (set r.0 k n) (set s.words k n) s.homes g.0 0)
    (λ j h other e. (
      λ m. let its = sound.honest j h.view (sees s.views r.0 j h e) in
          word_free r.0 h.view u k m word (shared r.0 s j id k h (idle u) sound e here (λ z. other (sym z)) (take_holds r.0 h.view k its m) mine),
      λ a b. let sole = (t.copies j h e k a b).0 in sole_free r.0 u h.view k sole (shared r.0 s id j k (idle u) h sound here e other mine (sole_holds h.view k sole)),
    ))
    (λ j h z e c f. set_here s.words k n low ∙ (sym (set_here r.0 k n deep) ∙ f))
    (λ j h z rests e c f. absurd (nowhere j h e c))
    (λ rests a. t.filled k a nobody) in (
      idle g.0,
      keeps,
      tt,
      (set r.0 k n, subst (Reached count (set r.0 k n)) (sym (map_set s.views id (idle g.0))) (reaches count r.0 (views_of s.views) g.1 (set r.0 k n) _ r.1 g.2), table),
      (g.4, refl),
    )
  where
    sound : Sound (world_of r.0 s.views)
    sound = reached_sound count r.0 (views_of s.views) r.1

    t : Placed count r.0 s
    t = r.2

    mine : Holds u k
    mine = word_holds r.0 u k ((reached_sound count r.0 (views_of s.views) r.1).honest id u (sees s.views r.0 id (idle u) here)) word

    nowhere : (j : ℕ) (h : Token) → get_elem? s.views j ≡ some h → InSlot h.view k → ⊥
    nowhere j h e c = dite (ℕ_discrete j id)
        (λ (z : j ≡ id). one_place u k (subst (λ (y : Token). InSlot y.view k) (some-injective h (idle u) (sym e ∙ ap (get_elem? s.views) z ∙ here)) c) word)
        (λ (other : j ≢ id).
        let its = sound.honest j h.view (sees s.views r.0 j h e) in slot_free r.0 u h.view k word c (shared r.0 s id j k (idle u) h sound here e other mine (slot_holds r.0 h.view k its c)))

    nobody : Nobody s.views k
    nobody j f e = dite (ℕ_discrete j id)
        (λ (y : j ≡ id). let same : f ≡ idle u = some-injective f (idle u) (sym e ∙ ap (get_elem? s.views) y ∙ here) in subst (λ (g : Token). Clear g.out k) (sym same) tt)
        (λ (other : j ≢ id).
        let its = sound.honest j f.view (sees s.views r.0 j f e) in
        not_out r.0 f.view k f.out (λ m. word_free r.0 f.view u k m word (shared r.0 s j id k f (idle u) sound e here (λ v. other (sym v)) (take_holds r.0 f.view k its m) mine)) (t.outs j f e))

-- A STORE IN A TABLE'S WORD, IF THE TOKEN'S WORD OF THAT NUMBER LIES IN ITS SLOT, IS NO EVENT
pub advise_allows : (count slots id k n : ℕ) (u : View) → InSlot u k → Allows (Ruled count) slots id (idle u, []) k (λ _. n) (λ _ after. after ≡ (idle u, []))
advise_allows count slots id k n u slot s r more here fits = (
  idle u,
  keeps,
  tt,
  subst (λ (ts : List Token). Ruled count record { words = set s.words k n; homes = s.homes; views = ts }) (sym (set_again s.views id (idle u) here)) (r.0, r.1, table),
  refl,
)
  where
    sound : Sound (world_of r.0 s.views)
    sound = reached_sound count r.0 (views_of s.views) r.1

    t : Placed count r.0 s
    t = r.2

    mine : Holds u k
    mine = slot_holds r.0 u k ((reached_sound count r.0 (views_of s.views) r.1).honest id u (sees s.views r.0 id (idle u) here)) slot

    nowhere : (j : ℕ) (h : Token) → get_elem? s.views j ≡ some h → InWord h.view k → ⊥
    nowhere j h e c = dite (ℕ_discrete j id)
        (λ (z : j ≡ id). one_place u k slot (subst (λ (y : Token). InWord y.view k) (some-injective h (idle u) (sym e ∙ ap (get_elem? s.views) z ∙ here)) c))
        (λ (other : j ≢ id).
        let its = sound.honest j h.view (sees s.views r.0 j h e) in
        slot_free r.0 h.view u k c slot (shared r.0 s j id k h (idle u) sound e here (λ z. other (sym z)) (word_holds r.0 h.view k its c) mine))

    copied_by_none : (j : ℕ) (h : Token) → get_elem? s.views j ≡ some h → h.from ≤ k → k < h.from + h.copied → ⊥
    copied_by_none j h e low high = dite (ℕ_discrete j id)
        (λ (z : j ≡ id).
        let none : h.from + h.copied ≡ 0 = ap (λ (y : Token). y.from + y.copied) (some-injective h (idle u) (sym e ∙ ap (get_elem? s.views) z ∙ here)) in absurd (omega arith))
        (λ (other : j ≢ id). let sole = (t.copies j h e k low high).0 in sole_free r.0 u h.view k sole (shared r.0 s id j k (idle u) h sound here e other mine (sole_holds h.view k sole)))

    table : Placed count r.0 record { words = set s.words k n; homes = s.homes; views = s.views }
    table = record {
      counted = length-set {A = ℕ} s.words k n ∙ t.counted;
      outs = t.outs;
      copies = λ i g e q low high.
          let old = t.copies i g e q low high in
          let other : q ≢ k = λ z. copied_by_none i g e (subst (λ (b : ℕ). g.from ≤ b) z low) (subst (λ (b : ℕ). b < g.from + g.copied) z high) in
          (old.0, λ x f. copied_moves g.view s.words (set s.words k n) s.homes s.homes q x (set_else s.words k q n other) refl (old.1 x f));
      filled = t.filled;
      at_home = t.at_home;
      in_word = λ i g q x e c f. let other : q ≢ k = λ z. nowhere i g e (subst (InWord g.view) z c) in set_else s.words k q n other ∙ t.in_word i g q x e c f;
    }

-- AN OWNER COPIES THE WORD THAT IT HAS OUT
pub copy_allows : (count slots id k x : ℕ) (m : WordMap) (o : Olds) (from n : ℕ) → k ≡ from + n → Has m k → k < count → slots ≡ count
    → Allows (Ruled count) slots id (taking (Own m o) k x from n, (k, x) ∷ []) k (λ _. x) (λ _ after. after ≡ (copying (Own m o) from (suc n), []))
copy_allows count slots id k x m o from n next has inside even s r more here fits =
    let sound = reached_sound count r.0 (views_of s.views) r.1 in
    let t : Placed count r.0 s = r.2 in
    let u : View = Own m o in
    let old : Token = taking u k x from n in
    let out = out_value count r.0 s id k x from n u [] t here in
    let is = out.1 has in
    let wide : k < length s.homes = subst (λ (b : ℕ). k < b) (sym (more ∙ even)) inside in
    let low : k < length s.words = subst (λ (b : ℕ). k < b) (sym t.counted) inside in
    let table = touched count r.0 r.0 (set s.words k x) (set s.homes k (some x)) s id k old (copying u from (suc n)) t here (length-set {A = ℕ} s.words k x ∙ t.counted)
    (λ q z. refl) (λ q z. set_else s.words k q x z) (λ q z. set_else s.homes k q (some x) z)
    (λ q c. c) (λ q c. c) (clear_front k x []) tt
    (λ q a b. dite (ℕ_discrete q k)
    (λ (z : q ≡ k). (subst (Has m) (sym z) has, λ y f. ap (get_elem? (set s.words k x)) z ∙ (set_here s.words k x low ∙ (sym is ∙ (ap (get_elem? r.0) (sym z) ∙ f)))))
    (λ (z : q ≢ k). let c = t.copies id old here q a (shorter q z a b) in (c.0, λ y f. set_else s.words k q x z ∙ c.1 y f)))
    (taker_away count r.0 s id k old sound t here out.0)
    (λ j h z e c f. absurd (taker_alone r.0 s id k old sound here out.0 (λ w. w) j h e c))
    (λ j h z rests e c f. set_here s.homes k (some x) wide ∙ ap some (sym is ∙ f))
    (λ rests a. (x, set_here s.homes k (some x) wide)) in (
      copying u from (suc n),
      gives,
      tt,
      (r.0, subst (Reached count r.0) (sym (map_set s.views id (copying u from (suc n)) ∙ set_again (views_of s.views) id u (sees s.views r.0 id old here))) r.1, table),
      refl,
    )
  where
    shorter : (q : ℕ) → q ≢ k → from ≤ q → q < from + suc n → q < from + n
    shorter q z a b = omega arith

-- JOINED ENDS COPY A WORD BACK TO THE SLOT THAT THEY HAVE OUT
pub restore_allows : (count slots id i k x y : ℕ) (m : WordMap) (a : Sending) (b : Receiving) (from n : ℕ) → k ≡ from + n → at m k ≡ Some y → k < count → slots ≡ count
    → Allows (Ruled count) slots id (taking (Done m a b) k x from n, (k, y) ∷ []) i (λ f. f) (λ f after. after ≡ (copying (Done m a b) from (suc n), []))
restore_allows count slots id i k x y m a b from n next value inside even s r more here fits =
    let sound = reached_sound count r.0 (views_of s.views) r.1 in
    let t : Placed count r.0 s = r.2 in
    let u : View = Done m a b in
    let old : Token = taking u k x from n in
    let out = out_value count r.0 s id k x from n u [] t here in
    let is : get_elem? r.0 k ≡ some y = (sound.honest id u (sees s.views r.0 id old here)).0 k y value in
    let wide : k < length s.homes = subst (λ (c : ℕ). k < c) (sym (more ∙ even)) inside in
    let table = subst (λ (ws : List ℕ). Placed count r.0 record { words = ws; homes = set s.homes k (some y); views = set s.views id (copying u from (suc n)) }) (sym (set_same s.words i))
    (touched count r.0 r.0 s.words (set s.homes k (some y)) s id k old (copying u from (suc n)) t here t.counted
    (λ q z. refl) (λ q z. refl) (λ q z. set_else s.homes k q (some y) z)
    (λ q c. c) (λ q c. c) (clear_front k x []) tt
    (λ q l h. dite (ℕ_discrete q k)
    (λ (z : q ≡ k). (subst (Has m) (sym z) (y, value), λ v f. ap (get_elem? (set s.homes k (some y))) z ∙ (set_here s.homes k (some y) wide ∙ ap some (sym is ∙ (ap (get_elem? r.0) (sym z) ∙ f)))))
    (λ (z : q ≢ k). let c = t.copies id old here q l (shorter q z l h) in (c.0, λ v f. set_else s.homes k q (some y) z ∙ c.1 v f)))
    (taker_away count r.0 s id k old sound t here out.0)
    (λ j h z e c f. t.in_word j h k z e c f)
    (λ j h z rests e c f. set_here s.homes k (some y) wide ∙ ap some (sym is ∙ f))
    (λ rests l. (y, set_here s.homes k (some y) wide))) in (
      copying u from (suc n),
      gives,
      tt,
      (r.0, subst (Reached count r.0) (sym (map_set s.views id (copying u from (suc n)) ∙ set_again (views_of s.views) id u (sees s.views r.0 id old here))) r.1, table),
      refl,
    )
  where
    shorter : (q : ℕ) → q ≢ k → from ≤ q → q < from + suc n → q < from + n
    shorter q z l h = omega arith

-- joined ends load a word that they have in the table's words
pub count_allows : (count slots id k : ℕ) (u : View) (from n : ℕ) (Then : ℕ → Type 0) → InWord u k → k < count
    → ((w : World) (x : ℕ) → Sound w → Sees w id u → Finds w k x → Then x)
    → Allows (Ruled count) slots id (copying u from n, []) k (λ f. f) (λ f after. Then f × (after ≡ (copying u from n, [])))
count_allows count slots id k u from n Then word inside go s r more here fits =
    let sound = reached_sound count r.0 (views_of s.views) r.1 in
    let t : Placed count r.0 s = r.2 in
    let y = has_at r.0 k (subst (λ (b : ℕ). k < b) (sym (reached-length count r.0 (views_of s.views) r.1)) inside) in
    let low : k < length s.words = subst (λ (b : ℕ). k < b) (sym t.counted) inside in
    let same : y.0 ≡ get_or s.words k 0 = some-injective y.0 (get_or s.words k 0) (sym (t.in_word id (copying u from n) k y.0 here word y.1) ∙ there s.words k low) in (
      copying u from n,
      keeps,
      tt,
      subst (λ (ts : List Token). Ruled count record { words = set s.words k (get_or s.words k 0); homes = s.homes; views = ts }) (sym (set_again s.views id (copying u from n) here))
          (subst (λ (ws : List ℕ). Ruled count record { words = ws; homes = s.homes; views = s.views }) (sym (set_same s.words k)) r),
      (go (world_of r.0 s.views) (get_or s.words k 0) sound (sees s.views r.0 id (copying u from n) here) (y.1 ∙ ap some same), refl),
    )

-- A CUT AND A JOIN
pub split_allows : (count id : ℕ) (u : View) (from n : ℕ) (left right : View)
    → ((w : World) → Sound w → Sees w id u → (e : Event) × Happens e w (cut_anew w id left right) × Within u from n left × Within u from n right)
    → Splits (Ruled count) id (copying u from n) (idle left) (idle right)
split_allows count id u from n left right go s r here =
    let sound = reached_sound count r.0 (views_of s.views) r.1 in
    let t : Placed count r.0 s = r.2 in
    let g = go (world_of r.0 s.views) sound (sees s.views r.0 id (copying u from n) here) in
    let one = viewed count r.0 s id 0 (copying u from n) left t here refl (in_slots count r.0 s id from n u left t here g.2) (in_words count r.0 s id from n u left t here g.2) in (
      r.0,
      subst (Reached count r.0) (sym (map_snoc (set s.views id (idle left)) (idle right) ∙ ap (λ (vs : List View). vs ++ right ∷ []) (map_set s.views id (idle left))))
          (reaches count r.0 (views_of s.views) g.0 r.0 _ r.1 g.1),
      appended count r.0 record { words = s.words; homes = s.homes; views = set s.views id (idle left) } right one
          (λ q x c free f. in_slots count r.0 s id from n u right t here g.3 q x c (free_back s.views id q (copying u from n) (idle left) here refl free) f)
          (in_words count r.0 s id from n u right t here g.3),
    )

pub join_allows : (count id other : ℕ) (u v both : View)
    → ((w : World) → Sound w → Sees w id u → Sees w other v → other ≢ id → (e : Event) × Happens e w (joined_anew w id both other)
    × ((q : ℕ) → InSlot both q → InSlot u q ⊎ InSlot v q) × ((q : ℕ) → InWord both q → InWord u q ⊎ InWord v q))
    → Joins (Ruled count) id (idle u) other (idle v) (idle both) (idle Spent)
join_allows count id other u v both go s r here apart at_other =
    let its : get_elem? s.views other ≡ some (idle v) = sym (set_else s.views id other (idle both) apart) ∙ at_other in
    let sound = reached_sound count r.0 (views_of s.views) r.1 in
    let t : Placed count r.0 s = r.2 in
    let g = go (world_of r.0 s.views) sound (sees s.views r.0 id (idle u) here) (sees s.views r.0 other (idle v) its) apart in
    let one = viewed count r.0 s id 0 (idle u) both t here refl
    (λ q x c free f. ⊎_elim (λ (p : InSlot u q). t.at_home id (idle u) q x here p free f) (λ (p : InSlot v q). t.at_home other (idle v) q x its p free f) (g.2 q c))
    (λ q x c f. ⊎_elim (λ (p : InWord u q). t.in_word id (idle u) q x here p f) (λ (p : InWord v q). t.in_word other (idle v) q x its p f) (g.3 q c)) in (
      r.0,
      subst (Reached count r.0) (sym (map_set (set s.views id (idle both)) other (idle Spent) ∙ ap (λ (vs : List View). set vs other Spent) (map_set s.views id (idle both))))
          (reaches count r.0 (views_of s.views) g.0 r.0 _ r.1 g.1),
      viewed count r.0 record { words = s.words; homes = s.homes; views = set s.views id (idle both) } other 0 (idle v) Spent one at_other refl (λ q x c free f. absurd c) (λ q x c f. absurd c),
    )
