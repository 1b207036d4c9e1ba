-- The texts that the program prints, from their parts.
use mathlib.Core.Path.{◌≡◌, refl, sym, ap, ap₂, subst, ◌∙◌}
use mathlib.Core.List.{List, [], ◌∷◌, ◌++◌, append_assoc, append-nil}
use Prim.Native.Nat.{ℕ, zero, suc, ◌+◌, ◌≤◌, ◌<◌}
use native.Mathlib.Omega.{arith}
use native.Mathlib.Numerals.{add-one}
use lib.ListN.{length, get_or, take, drop, length-drop}
use lib.Seq.{take-suc, take_all, drop-drop}
use Rattle.chains.specs.Grammar.{Grammar}
use Rattle.book.specs.Format.{left_at, prods, grammar}
use Rattle.book.specs.Reading.{settings_of, Index}
use Rattle.bookcheck.specs.Accepted.{Accepted}
use Rattle.bookcheck.proofs.Accepted.{settings_read, place_read}
use Rattle.sheet.specs.Reading.{all_settings}
use Rattle.sheet.proofs.Reading.{settings_next}
use Rattle.numbering.specs.Promise.{Lent}
use Rattle.numbering.specs.Places.{plausible_rank, feasible_rank, down_entry_of}
use Rattle.text.specs.Decimals.{decimals}
use Rattle.groups.specs.Printed.{word_refused, word_ok, blank, line_end, numbers, refusal, totals, line, lines, own_groups}
use Rattle.groups.specs.Adding.{Adds, Printable}
use Rattle.groups.proofs.Adding.{nothing, followed, same_text}

-- ── numbers ──
numbers_behind : (a b : List ℕ) → numbers (a ++ b) ≡ numbers a ++ numbers b
unfolding numbers
numbers_behind [] b = refl
numbers_behind (n ∷ a) b = ap (λ (x : List ℕ). blank ∷ (decimals n ++ x)) (numbers_behind a b) ∙ ap (λ (x : List ℕ). blank ∷ x) (sym (append_assoc (decimals n) (numbers a) (numbers b)))

numbers_next : (l : List ℕ) (i : ℕ) → i < length l → numbers (take i l) ++ (blank ∷ decimals (get_or l i 0)) ≡ numbers (take (i + 1) l)
unfolding numbers
numbers_next l i h =
    let e : take (i + 1) l ≡ take i l ++ (get_or l i 0 ∷ []) = ap (λ (k : ℕ). take k l) (add-one i) ∙ take-suc l i 0 h in
    sym (ap numbers e ∙ numbers_behind (take i l) (get_or l i 0 ∷ []) ∙ ap (λ (x : List ℕ). numbers (take i l) ++ (blank ∷ x)) (append-nil (decimals (get_or l i 0))))

-- a loop over numbers: those before i are added
pub numbers_begun : (s : List ℕ) → Adds s (numbers []) s
unfolding numbers
numbers_begun s = nothing s

pub numbers_turn : (l : List ℕ) {s s₁ s₂ : List ℕ} {i : ℕ} → Adds s (numbers (take i l)) s₁ → i < length l → Adds s₁ (blank ∷ decimals (get_or l i 0)) s₂ → Adds s (numbers (take (i + 1) l)) s₂
numbers_turn l {i = i} a h b = same_text (numbers_next l i h) (followed a b)

pub numbers_done : (l : List ℕ) {s s' : List ℕ} {i : ℕ} → Adds s (numbers (take i l)) s' → length l ≤ i → Adds s (numbers l) s'
numbers_done l {i = i} a h = same_text (ap numbers (take_all i l h)) a

-- ── lines ──
two_numbers : (x a b : List ℕ) → (x ++ (blank ∷ a)) ++ (blank ∷ b) ≡ x ++ (blank ∷ (a ++ (blank ∷ (b ++ []))))
two_numbers x a b = simp (append_assoc, append-nil)

three_numbers : (x a b c : List ℕ) → ((x ++ (blank ∷ a)) ++ (blank ∷ b)) ++ (blank ∷ c) ≡ x ++ (blank ∷ (a ++ (blank ∷ (b ++ (blank ∷ (c ++ []))))))
three_numbers x a b c = simp (append_assoc, append-nil)

four_numbers : (x a b c d e : List ℕ) → ((((x ++ (blank ∷ a)) ++ (blank ∷ b)) ++ (blank ∷ c)) ++ (blank ∷ d)) ++ e
    ≡ x ++ (blank ∷ (a ++ (blank ∷ (b ++ (blank ∷ (c ++ (blank ∷ (d ++ e))))))))
four_numbers x a b c d e =
    append_assoc (((x ++ (blank ∷ a)) ++ (blank ∷ b)) ++ (blank ∷ c)) (blank ∷ d) e ∙ append_assoc ((x ++ (blank ∷ a)) ++ (blank ∷ b)) (blank ∷ c) (blank ∷ (d ++ e))
    ∙ append_assoc (x ++ (blank ∷ a)) (blank ∷ b) (blank ∷ (c ++ (blank ∷ (d ++ e)))) ∙ append_assoc x (blank ∷ a) (blank ∷ (b ++ (blank ∷ (c ++ (blank ∷ (d ++ e))))))

pub refusal_text : {s s₁ s₂ s₃ s₄ : List ℕ} (n p : ℕ) → Adds s word_refused s₁ → Adds s₁ (blank ∷ decimals n) s₂ → Adds s₂ (blank ∷ decimals p) s₃ → Adds s₃ line_end s₄
    → Adds s (refusal n p) s₄
unfolding numbers
refusal_text n p a b c d =
    same_text (ap (λ (x : List ℕ). x ++ line_end) (two_numbers word_refused (decimals n) (decimals p))) (followed (followed (followed a b) c) d)

pub totals_text : {s s₁ s₂ s₃ s₄ s₅ : List ℕ} (n m k : ℕ) → Adds s word_ok s₁ → Adds s₁ (blank ∷ decimals n) s₂ → Adds s₂ (blank ∷ decimals m) s₃
    → Adds s₃ (blank ∷ decimals k) s₄ → Adds s₄ line_end s₅ → Adds s (totals (n ∷ m ∷ k ∷ [])) s₅
unfolding numbers
totals_text n m k a b c d e =
    same_text (ap (λ (x : List ℕ). x ++ line_end) (three_numbers word_ok (decimals n) (decimals m) (decimals k))) (followed (followed (followed (followed a b) c) d) e)

pub line_text : {s s₁ s₂ s₃ s₄ s₅ s₆ s₇ : List ℕ} (i p u f e : ℕ) (own : List ℕ) → Adds s (decimals i) s₁ → Adds s₁ (blank ∷ decimals p) s₂ → Adds s₂ (blank ∷ decimals u) s₃
    → Adds s₃ (blank ∷ decimals f) s₄ → Adds s₄ (blank ∷ decimals e) s₅ → Adds s₅ (numbers own) s₆ → Adds s₆ line_end s₇ → Adds s (line i p u f e own) s₇
unfolding numbers
line_text i p u f e own a b c d g k l =
    same_text
    (ap (λ (x : List ℕ). x ++ line_end) (four_numbers (decimals i) (decimals p) (decimals u) (decimals f) (decimals e) (numbers own)))
    (followed (followed (followed (followed (followed (followed a b) c) d) g) k) l)

-- ── all lines ──

settings_front : (G : Grammar) (l : List ℕ) (i : ℕ) → all_settings G (take i l) ≤ all_settings G l
unfolding all_settings
settings_front G l zero = omega arith
settings_front G [] (suc i) = omega arith
settings_front G (p ∷ l) (suc i) = let e = settings_front G l i in omega arith

-- a loop over the sheet: the lines of the nodes before i are added, and the group numbers of the settings from node i on are left
pub record Listing (b l : List ℕ) (m : Lent) (s s' rest : List ℕ) (i : ℕ) : Type 0 where
  pub so_far : Adds s (lines (grammar b) l m i) s'
  pub left : rest ≡ drop (all_settings (grammar b) (take i l)) m.groups

pub listing_begun : (b l : List ℕ) (m : Lent) (s : List ℕ) → Listing b l m s s m.groups 0
unfolding lines all_settings
listing_begun b l m s = record { so_far = nothing s; left = refl }

-- the settings of node i have their group numbers in what is left
pub own_left : {b l : List ℕ} {m : Lent} {s s' rest : List ℕ} {i w : ℕ} → Printable b l m → Listing b l m s s' rest i → i < length l
    → w ≡ (grammar b).settings ((grammar b).left (get_or l i 0)) → w ≤ length rest
own_left {b} {l} {m} {i = i} p g k e =
    rw g.left (omega (arith, length-drop (all_settings (grammar b) (take i l)) m.groups, p.groups, settings_next (grammar b) l i k, settings_front (grammar b) l (suc i)))

pub listing_turn : {b l : List ℕ} {m : Lent} {s s₁ s₂ rest own next : List ℕ} {i w : ℕ} → Listing b l m s s₁ rest i → i < length l
    → w ≡ (grammar b).settings ((grammar b).left (get_or l i 0)) → own ≡ take w rest → next ≡ drop w rest
    → Adds s₁ (line i (get_or l i 0) (plausible_rank m.nodes i) (feasible_rank m.nodes i) (down_entry_of m.nodes i) own) s₂ → Listing b l m s s₂ next (i + 1)
unfolding lines
listing_turn {b} {l} {m} {s₂ = s₂} {rest = rest} {own = own} {next = next} {i = i} {w = w} g k e o n a =
    let G = grammar b in
    let base = all_settings G (take i l) in
    let mine : own ≡ own_groups G l m i = o ∙ ap₂ (λ (x : ℕ) (y : List ℕ). take x y) e g.left in
    let row = ap (λ (x : List ℕ). lines G l m i ++ line i (get_or l i 0) (plausible_rank m.nodes i) (feasible_rank m.nodes i) (down_entry_of m.nodes i) x) mine in
    let more : suc i ≡ i + 1 = omega arith in
    let after : base + w ≡ all_settings G (take (i + 1) l) = subst (λ (n : ℕ). base + w ≡ all_settings G (take n l)) more (omega (arith, settings_next G l i k)) in
    record {
      so_far = same_text (row ∙ ap (λ (n : ℕ). lines G l m n) more) (followed g.so_far a);
      left = n ∙ ap (λ (y : List ℕ). drop w y) g.left ∙ drop-drop w base m.groups ∙ ap (λ (n : ℕ). drop n m.groups) after;
    }
