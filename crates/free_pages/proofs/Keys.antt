-- Which words the pages keep, when a run goes out and comes back.
use Rattle.std.proofs.Common.{◌≡◌, ℕ, ◌+◌, ◌-◌, ◌*◌, ◌/◌, ◌<◌, ◌≤◌, Bool, true, false, not, cond, ◌&&◌, ◌||◌, Option, Some, None, is_some, List, [], ◌∷◌, refl, sym, ap, ◌∙◌, arith}
use Rattle.std.proofs.lemmas.Bool.{false_from_ne_true}
use Rattle.word_map.specs.WordMap.{WordMap, at, is_within, range_of, rest_of, union}
use Rattle.word_map.proofs.Maps.{at-range, at-rest_cond, at-union_cond, within_is, within_true}
use Rattle.word_map.specs.WordMap.{HasJust}
use Rattle.free_pages.specs.Legal.{Granted, is_taken, is_recorded, Adds}
use Rattle.free_pages.specs.PagesView.{HasKept}
use Rattle.free_pages.proofs.Lists.{taken_adds, recorded_adds}

bool_same : (a b : Bool) → (a ≡ true → b ≡ true) → (b ≡ true → a ≡ true) → a ≡ b
bool_same true true f g = refl
bool_same false false f g = refl
bool_same true false f g = sym (f refl)
bool_same false true f g = g refl

-- a word is one of a run's pages where its page is in the run
abbrev pub IsUnit : ℕ → Type 0
IsUnit unit = (from q n k : ℕ) → from ≤ k → is_within q n ((k - from) / unit) ≡ is_within (from + unit * q) (unit * n) k

pub word_of_page : IsUnit 512
word_of_page from q n k h = bool_same (is_within q n ((k - from) / 512)) (is_within (from + 512 * q) (512 * n) k)
    (λ e. let i = within_is q n ((k - from) / 512) e in within_true (from + 512 * q) (512 * n) k (omega (arith, i.0, i.1)) (omega (arith, i.0, i.1)))
    (λ e. let i = within_is (from + 512 * q) (512 * n) k e in within_true q n ((k - from) / 512) (omega (arith, i.0, i.1)) (omega (arith, i.0, i.1)))

pub word_of_record : IsUnit 7
word_of_record from q n k h = bool_same (is_within q n ((k - from) / 7)) (is_within (from + 7 * q) (7 * n) k)
    (λ e. let i = within_is q n ((k - from) / 7) e in within_true (from + 7 * q) (7 * n) k (omega (arith, i.0, i.1)) (omega (arith, i.0, i.1)))
    (λ e. let i = within_is (from + 7 * q) (7 * n) k e in within_true q n ((k - from) / 7) (omega (arith, i.0, i.1)) (omega (arith, i.0, i.1)))

pub some_rest : (b : Bool) (o : Option ℕ) → is_some (cond b None o) ≡ (not b && is_some o)
some_rest true o = refl
some_rest false o = refl

pub some_range : (b : Bool) (o : Option ℕ) → is_some (cond b o None) ≡ (b && is_some o)
some_range true o = refl
some_range false o = refl

some_union : (o p : Option ℕ) → is_some (cond (is_some o) o p) ≡ (is_some o || is_some p)
some_union (Some x) p = refl
some_union None p = refl

rest_test : (w f o v : Bool) → (f ≡ true → v ≡ w) → (not w && (f && not o)) ≡ (f && not (v || o))
rest_test true false o v h = refl
rest_test false false o v h = refl
rest_test true true o v h = sym (ap (λ (x : Bool). not (x || o)) (h refl))
rest_test false true o v h = sym (ap (λ (x : Bool). not (x || o)) (h refl))

range_test : (w f o : Bool) → (w ≡ true → f ≡ true) → (w ≡ true → o ≡ false) → (w && (f && not o)) ≡ w
range_test false f o h g = refl
range_test true f o h g = ap (λ (x : Bool). x && not o) (h refl) ∙ ap not (g refl)

join_test : (w f o v : Bool) → (f ≡ true → v ≡ w) → (w ≡ true → f ≡ true) → (w ≡ true → o ≡ false) → (w || (f && not (v || o))) ≡ (f && not o)
join_test true f o v h g i = sym (ap (λ (x : Bool). x && not o) (g refl) ∙ ap not (i refl))
join_test false false o v h g i = refl
join_test false true o v h g i = ap (λ (x : Bool). not (x || o)) (h refl)

inside_all : (from unit pages q n k w : ℕ) → q + n ≤ pages → unit * (q + n) ≤ unit * pages → unit * q + unit * n ≡ unit * (q + n) → is_within (from + unit * q) (unit * n) k ≡ true → is_within from (unit * pages) k ≡ true
inside_all from unit pages q n k w low more e h =
    let i = within_is (from + unit * q) (unit * n) k h in within_true from (unit * pages) k (omega (arith, i.0)) (omega (arith, i.0, i.1, e, more))

-- `unit` times a sum of pages
abbrev pub IsLinear : ℕ → Type 0
IsLinear unit = (q n pages : ℕ) → q + n ≤ pages → (unit * (q + n) ≤ unit * pages) × (unit * q + unit * n ≡ unit * (q + n))

pub linear_page : IsLinear 512
linear_page q n pages h = (omega arith, omega arith)

pub linear_record : IsLinear 7
linear_record q n pages h = (omega arith, omega arith)

-- what is left when a run's words are split off
pub kept_less : (m : WordMap) (from unit pages q n : ℕ) (before after : ℕ → Bool) → IsUnit unit → HasKept m from unit pages before
    → ((k : ℕ) → after k ≡ (is_within q n k || before k)) → HasKept (rest_of m (from + unit * q) (unit * n)) from unit pages after
kept_less m from unit pages q n before after u keeps more k =
    let p = (k - from) / unit in
    let w = is_within (from + unit * q) (unit * n) k in
    let f = is_within from (unit * pages) k in
    ap is_some (at-rest_cond m (from + unit * q) (unit * n) k) ∙ some_rest w (at m k) ∙ ap (λ (b : Bool). not w && b) (keeps k)
    ∙ rest_test w f (before p) (is_within q n p) (λ e. u from q n k (within_is from (unit * pages) k e).0)
    ∙ sym (ap (λ (b : Bool). f && not b) (more p))

-- the words that are split off
pub just_run : (m : WordMap) (from unit pages q n : ℕ) (before : ℕ → Bool) → IsUnit unit → IsLinear unit → q + n ≤ pages → HasKept m from unit pages before
    → ((k : ℕ) → q ≤ k → k < q + n → before k ≡ false) → HasJust (range_of m (from + unit * q) (unit * n)) (from + unit * q) (unit * n)
just_run m from unit pages q n before u l low keeps free k =
    let p = (k - from) / unit in
    let w = is_within (from + unit * q) (unit * n) k in
    let f = is_within from (unit * pages) k in
    let inside : w ≡ true → f ≡ true = λ e. inside_all from unit pages q n k 0 low (l q n pages low).0 (l q n pages low).1 e in
    ap is_some (at-range m (from + unit * q) (unit * n) k) ∙ some_range w (at m k) ∙ ap (λ (b : Bool). w && b) (keeps k)
    ∙ range_test w f (before p) inside
    (λ e. let i = within_is q n p (u from q n k (within_is from (unit * pages) k (inside e)).0 ∙ e) in free p i.0 i.1)

-- the words that are to be split off are there
pub has_run : (m : WordMap) (from unit pages q n : ℕ) (before : ℕ → Bool) → IsUnit unit → IsLinear unit → q + n ≤ pages → HasKept m from unit pages before
    → ((k : ℕ) → q ≤ k → k < q + n → before k ≡ false) → (k : ℕ) → from + unit * q ≤ k → k < from + unit * q + unit * n → is_some (at m k) ≡ true
has_run m from unit pages q n before u l low keeps free k a b =
    let p = (k - from) / unit in
    let w : is_within (from + unit * q) (unit * n) k ≡ true = within_true (from + unit * q) (unit * n) k a b in
    let f = inside_all from unit pages q n k 0 low (l q n pages low).0 (l q n pages low).1 w in
    let i = within_is q n p (u from q n k (within_is from (unit * pages) k f).0 ∙ w) in
    keeps k ∙ ap (λ (x : Bool). x && not (before p)) f ∙ ap not (free p i.0 i.1)

-- what is there when a run's words come back
pub kept_more : (m n' : WordMap) (from unit pages q n : ℕ) (before after : ℕ → Bool) → IsUnit unit → IsLinear unit → q + n ≤ pages → HasKept m from unit pages before
    → HasJust n' (from + unit * q) (unit * n) → ((k : ℕ) → before k ≡ (is_within q n k || after k)) → ((k : ℕ) → q ≤ k → k < q + n → after k ≡ false)
    → HasKept (union m n') from unit pages after
kept_more m n' from unit pages q n before after u l low keeps just more free k =
    let p = (k - from) / unit in
    let w = is_within (from + unit * q) (unit * n) k in
    let f = is_within from (unit * pages) k in
    let inside : w ≡ true → f ≡ true = λ e. inside_all from unit pages q n k 0 low (l q n pages low).0 (l q n pages low).1 e in
    ap is_some (at-union_cond m n' k) ∙ some_union (at n' k) (at m k) ∙ ap (λ (b : Bool). b || is_some (at m k)) (just k)
    ∙ ap (λ (b : Bool). w || b) (keeps k ∙ ap (λ (b : Bool). f && not b) (more p))
    ∙ join_test w f (after p) (is_within q n p) (λ e. u from q n k (within_is from (unit * pages) k e).0) inside
    (λ e. let i = within_is q n p (u from q n k (within_is from (unit * pages) k (inside e)).0 ∙ e) in free p i.0 i.1)

pub kept_same : (m : WordMap) (from unit pages : ℕ) (before after : ℕ → Bool) → HasKept m from unit pages before → ((k : ℕ) → after k ≡ before k) → HasKept m from unit pages after
kept_same m from unit pages before after keeps same k = keeps k ∙ ap (λ (b : Bool). is_within from (unit * pages) k && not b) (sym (same ((k - from) / unit)))

pub taken_more : (before after : List Granted) (g : Granted) → Adds before after g → (k : ℕ) → is_taken after k ≡ (is_within g.from g.len k || is_taken before k)
taken_more before after g a k =
    ap (λ (l : List Granted). is_taken l k) a.3 ∙ taken_adds a.0 a.1 g k ∙ sym (ap (λ (l : List Granted). is_within g.from g.len k || is_taken l k) a.2)

pub recorded_more : (before after : List Granted) (g : Granted) → Adds before after g → (k : ℕ) → is_recorded after k ≡ ((g.control && is_within g.from g.len k) || is_recorded before k)
recorded_more before after g a k =
    ap (λ (l : List Granted). is_recorded l k) a.3 ∙ recorded_adds a.0 a.1 g k ∙ sym (ap (λ (l : List Granted). (g.control && is_within g.from g.len k) || is_recorded l k) a.2)

-- a page that is in no granted run is in none that took its records
pub recorded_free : (gs : List Granted) (k : ℕ) → is_taken gs k ≡ false → is_recorded gs k ≡ false
recorded_free gs k e = false_from_ne_true (is_recorded gs k) (λ r. let t = also gs r in cc)
  where
    or_true : (a b : Bool) → b ≡ true → (a || b) ≡ true
    or_true true b e = refl
    or_true false b e = e

    step : (c w x y : Bool) → ((c && w) || x) ≡ true → (x ≡ true → y ≡ true) → (w || y) ≡ true
    step c true x y e f = refl
    step true false x y e f = f e
    step false false x y e f = f e

    also : (gs : List Granted) → is_recorded gs k ≡ true → is_taken gs k ≡ true
    also [] r = cc
    also (g ∷ gs) r = step g.control (is_within g.from g.len k) (is_recorded gs k) (is_taken gs k) r (also gs)
