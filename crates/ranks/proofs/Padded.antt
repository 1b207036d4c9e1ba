-- A read is given a count and a rank for each of n children. Past a production's last child the count is 1 and the rank 0: that changes no number.
use mathlib.Core.Path.{◌≡◌, refl, sym, ap, ap₂, ◌∙◌}
use mathlib.Core.List.{List, [], ◌∷◌}
use Prim.Native.Nat.{ℕ, zero, suc, ◌+◌, ◌*◌, ◌≤◌, ◌<◌}
use native.Mathlib.Nat.{add-zero, zero-add}
use native.Mathlib.Decide.{dec_lt}
use native.Mathlib.Omega.{arith}
use lib.ListN.{length, get_or}
use Rattle.chains.specs.Limits.{max_kids}
use Rattle.chains.specs.Grammar.{Grammar}
use Rattle.ranks.specs.Entries.{choices, choice, up_start, up_entry, down_start, down_entry}
use Rattle.ranks.specs.Padded.{CountsPadded, RanksPadded}
use Rattle.ranks.specs.Reads.{from, up_number, down_number}

-- ── numbers from child i on ──
-- the count of child j of the kinds ks, 1 where there is no such child
count_of : List ℕ → List ℕ → ℕ → ℕ
count_of c [] j = 1
count_of c (k ∷ ks) zero = get_or c k 0
count_of c (k ∷ ks) (suc j) = count_of c ks j

count_within : (c ks : List ℕ) (j : ℕ) → j < length ks → count_of c ks j ≡ get_or c (get_or ks j 0) 0
unfolding count_of
count_within c [] j h = absurd (omega arith)
count_within c (k ∷ ks) zero h = refl
count_within c (k ∷ ks) (suc j) h = count_within c ks j (omega arith)

count_past : (c ks : List ℕ) (j : ℕ) → length ks ≤ j → count_of c ks j ≡ 1
unfolding count_of
count_past c [] j h = refl
count_past c (k ∷ ks) zero h = absurd (omega arith)
count_past c (k ∷ ks) (suc j) h = count_past c ks j (omega arith)

CountsFrom : ℕ → ℕ → List ℕ → List ℕ → List ℕ → Type 0
CountsFrom i n c ks ns = (j : ℕ) → j < n → get_or ns (i + j) 0 ≡ count_of c ks j

here : (i n : ℕ) (c ks ns : List ℕ) → CountsFrom i (suc n) c ks ns → get_or ns i 0 ≡ count_of c ks 0
unfolding CountsFrom
here i n c ks ns f = ap (λ j. get_or ns j 0) (sym (add-zero i)) ∙ f 0 (omega arith)

after : (i n : ℕ) (ns : List ℕ) (v : ℕ → ℕ) → ((j : ℕ) → j < suc n → get_or ns (i + j) 0 ≡ v j) → (j : ℕ) → j < n → get_or ns (suc i + j) 0 ≡ v (suc j)
after i n ns v f j h =
    let e : suc i + j ≡ i + suc j = omega arith in
    ap (λ m. get_or ns m 0) e ∙ f (suc j) (omega arith)

choices_from : (i n : ℕ) (c ks ns : List ℕ) → length ks ≤ n → CountsFrom i n c ks ns → choices ns (from i n) ≡ choices c ks
unfolding choices from CountsFrom count_of
choices_from i zero c [] ns l f = refl
choices_from i zero c (k ∷ ks) ns l f = absurd (omega arith)
choices_from i (suc n) c [] ns l f = ap₂ ◌*◌ (here i n c [] ns f) (choices_from (suc i) n c [] ns (omega arith) (after i n ns (count_of c []) f))
choices_from i (suc n) c (k ∷ ks) ns l f =
    ap₂ ◌*◌ (here i n c (k ∷ ks) ns f) (choices_from (suc i) n c ks ns (omega arith) (after i n ns (count_of c (k ∷ ks)) f))

-- the ranks after the first; tail is rs without its first, if it has one
ranks_after : {n m : ℕ} {rs tail ms : List ℕ} → ((j : ℕ) → get_or rs (suc j) 0 ≡ get_or tail j 0) → RanksPadded (suc n) rs (m ∷ ms) → RanksPadded n tail ms
ranks_after e p = record { long = omega (arith, p.long); same = λ j h. p.same (suc j) (omega arith) ∙ e j }

choice_from : (i n : ℕ) (c ks rs ns ms : List ℕ) → length ks ≤ n → length rs ≡ length ks → CountsFrom i n c ks ns → RanksPadded n rs ms
    → choice ns (from i n) ms ≡ choice c ks rs
unfolding choices choice from CountsFrom count_of
choice_from i zero c [] rs ns ms l e f p = refl
choice_from i zero c (k ∷ ks) rs ns ms l e f p = absurd (omega arith)
choice_from i (suc n) c ks rs ns [] l e f p = absurd (omega (arith, p.long))
choice_from i (suc n) c [] [] ns (m ∷ ms) l e f p =
    let t : choice ns (from (suc i) n) ms ≡ 0 = choice_from (suc i) n c [] [] ns ms (omega arith) refl (after i n ns (count_of c []) f) (ranks_after (λ j. refl) p) in
    let z : m * choices ns (from (suc i) n) ≡ 0 * choices ns (from (suc i) n) = ap (λ x. x * choices ns (from (suc i) n)) (p.same 0 (omega arith)) in
    omega arith
choice_from i (suc n) c [] (r ∷ rs) ns (m ∷ ms) l e f p = absurd (omega arith)
choice_from i (suc n) c (k ∷ ks) [] ns (m ∷ ms) l e f p = absurd (omega arith)
choice_from i (suc n) c (k ∷ ks) (r ∷ rs) ns (m ∷ ms) l e f p =
    let g = after i n ns (count_of c (k ∷ ks)) f in
    ap₂ ◌+◌ (ap₂ ◌*◌ (p.same 0 (omega arith)) (choices_from (suc i) n c ks ns (omega arith) g))
    (choice_from (suc i) n c ks rs ns ms (omega arith) (omega arith) g (ranks_after (λ j. refl) p))

-- ── THEOREMS: the padded numbers are the production's own ──
counted_from : {n : ℕ} {c ks ns : List ℕ} → CountsPadded n c ks ns → CountsFrom 0 n c ks ns
unfolding CountsFrom
counted_from {n} {c} {ks} {ns} p j h = ap (λ m. get_or ns m 0) (zero-add j) ∙ go (dec_lt j (length ks))
  where
    go : Dec (j < length ks) → get_or ns j 0 ≡ count_of c ks j
    go (yes l) = p.counts j l ∙ sym (count_within c ks j l)
    go (no l) = p.ones j (omega arith) h ∙ sym (count_past c ks j (omega arith))

module _ {n : ℕ} {c ks ns : List ℕ} (p : CountsPadded n c ks ns) where
  pub choices_padded : choices ns (from 0 n) ≡ choices c ks
  choices_padded = choices_from 0 n c ks ns p.few (counted_from p)

  pub choice_padded : {rs ms : List ℕ} → length rs ≡ length ks → RanksPadded n rs ms → choice ns (from 0 n) ms ≡ choice c ks rs
  choice_padded {rs} {ms} e q = choice_from 0 n c ks rs ns ms p.few e (counted_from p) q

module _ (G : Grammar) {c : List ℕ} {p : ℕ} {ns : List ℕ} (h : CountsPadded max_kids c (G.kids p) ns) {rs ms : List ℕ}
    (e : length rs ≡ length (G.kids p)) (q : RanksPadded max_kids rs ms) where
  pub up_number_is : up_number (up_start G c p) ns ms ≡ up_entry G c p rs
  up_number_is = ap (λ x. up_start G c p + x) (choice_padded h e q)

  pub down_number_is : (d : List ℕ) (f : ℕ) → down_number (down_start G c d p) ns f ms ≡ down_entry G c d p f rs
  down_number_is d f = ap (λ x. down_start G c d p + x) (ap₂ (λ x y. f * x + y) (choices_padded h) (choice_padded h e q))
