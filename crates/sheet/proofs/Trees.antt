-- A sheet is accepted exactly when it is the preorder list of a tree under the start of at most 64 levels, and then of one only.
use mathlib.Core.Path.{◌≡◌, refl, sym, ap, subst, ◌∙◌}
use mathlib.Core.Logic.{inl, inr, ◌↔◌}
use mathlib.Core.List.{List, [], ◌∷◌, ◌++◌, append_assoc, append-nil, head-eq_of_cons-eq, tail-eq_of_cons-eq}
use Prim.Native.Nat.{ℕ, zero, suc, ◌+◌, ◌≤◌, ◌<◌}
use native.Mathlib.Decide.{dec_le, dec_lt, ℕ_discrete}
use native.Mathlib.Nat.{add-zero}
use native.Mathlib.Omega.{arith}
use lib.ListN.{length, get_or, drop, length-append, length-drop}
use lib.Seq.{drop-cons, drop-length}
use Rattle.lists.specs.Refusals.{accepted}
use Rattle.chains.specs.Limits.{max_nodes, max_levels}
use Rattle.chains.specs.Grammar.{Grammar, Heads}
use Rattle.chains.specs.Tree.{Bush, nil, grow, size, flat, Kinded, Shallow}
use Rattle.chains.proofs.Read.{one_forest}
use Rattle.book.specs.Format.{grammar}
use Rattle.sheet.specs.Reading.{Node, due, Read, begun, further, all_settings}
use Rattle.sheet.specs.Refusals.{Applies, of_book, bad_length, no_production, other_kind, ends_early, bytes_left, too_deep, SheetDue}
use Rattle.sheet.specs.Trees.{Sound, Drawn, Fits}
use Rattle.sheet.proofs.Refusals.{read_accepted}

-- the forest meets what is due
abbrev Meets : Grammar → Bush → List Node → Type 0
Meets G nil [] = Unit {0}
Meets G nil (d ∷ ds) = ⊥
Meets G (grow p cs rest) [] = ⊥
Meets G (grow p cs rest) (d ∷ ds) = Heads G p d.0 × (d.1 ≤ max_levels) × Meets G cs (due (suc d.1) (G.kids p)) × Meets G rest ds

module _ (G : Grammar) where
  -- a forest that meets two lists, one after the other, is two forests
  parted : (ds es : List Node) (f : Bush) → Meets G f (ds ++ es) → (g : Bush) × (h : Bush) × Meets G g ds × Meets G h es × (flat f ≡ flat g ++ flat h)
  parted [] es f m = (nil, f, tt, m, refl)
  parted (d ∷ ds) es nil m = absurd m
  parted (d ∷ ds) es (grow p cs rest) m =
      let (g, h, mg, mh, e) = parted ds es rest m.3 in
      (grow p cs g, h, (m.0, m.1, m.2, mg), mh, ap (λ t. p ∷ t) (ap (λ t. flat cs ++ t) e ∙ sym (append_assoc (flat cs) (flat g) (flat h))))

  met_kinded : (f : Bush) (v : ℕ) (ks : List ℕ) → Meets G f (due v ks) → Kinded G f ks × Shallow max_levels f v
  met_kinded nil v [] m = (tt, tt)
  met_kinded nil v (k ∷ ks) m = absurd m
  met_kinded (grow p cs rest) v [] m = absurd m
  met_kinded (grow p cs rest) v (k ∷ ks) m =
      let (kc, sc) = met_kinded cs (suc v) (G.kids p) m.2 in
      let (kr, sr) = met_kinded rest v ks m.3 in
      ((m.0, kc, kr), (m.1, sc, sr))

  module _ (l : List ℕ) where
    -- what was read, with a forest for the rest, is a forest for the whole
    grown : {i : ℕ} {ds : List Node} → Read G l i ds → (f : Bush) → Meets G f ds → flat f ≡ drop i l
        → (g : Bush) × Meets G g ((G.start, 1) ∷ []) × (flat g ≡ l)
    grown (begun e) f m h = (f, subst (Meets G f) e m, h)
    grown (further {i = i} {k = k} {v = v} {rest = rest} r t q s e) f m h =
        let p = get_or l i 0 in
        let (g, more, mg, mm, x) = parted (due (suc v) (G.kids p)) rest f (subst (Meets G f) e m) in
        grown r (grow p g more) (q, s, mg, mm) (ap (λ u. p ∷ u) (sym x ∙ h) ∙ sym (drop-cons l i 0 t))

    -- the byte at i, where the list from i on is known
    next_is : (i p : ℕ) (u : List ℕ) → drop i l ≡ p ∷ u → (i < length l) × (get_or l i 0 ≡ p) × (drop (suc i) l ≡ u)
    next_is i p u e =
        let h : i < length l = omega (arith, length-drop i l, ap length e) in
        let c = sym (drop-cons l i 0 h) ∙ e in
        (h, head-eq_of_cons-eq c, tail-eq_of_cons-eq c)

    -- a forest is read through, whatever is due after it
    through : (f : Bush) (ks : List ℕ) (v i : ℕ) (ds : List Node) (u : List ℕ) → Kinded G f ks → Shallow max_levels f v
        → drop i l ≡ flat f ++ u → Read G l i (due v ks ++ ds) → Read G l (i + size f) ds × (drop (i + size f) l ≡ u)
    through nil [] v i ds u k s e r = rw (add-zero i) (r, e)
    through nil (x ∷ ks) v i ds u k s e r = absurd k
    through (grow p cs rest) [] v i ds u k s e r = absurd k
    through (grow p cs rest) (x ∷ ks) v i ds u k s e r =
        let (h, ep, eu) = next_is i p (flat cs ++ flat rest ++ u) e in
        let q : Heads G (get_or l i 0) x = rw ep k.0 in
        let below : Read G l (suc i) (due (suc v) (G.kids p) ++ (due v ks ++ ds)) = further r h q s.0 (ap (λ j. due (suc v) (G.kids j) ++ (due v ks ++ ds)) (sym ep)) in
        let (rc, ec) = through cs (G.kids p) (suc v) (suc i) (due v ks ++ ds) (flat rest ++ u) k.1 s.1 (eu ∙ append_assoc (flat cs) (flat rest) u) below in
        let (rr, er) = through rest ks v (suc i + size cs) ds u k.2 s.2 ec rc in
        let n : suc i + size cs + size rest ≡ i + suc (size cs + size rest) = omega arith in
        (subst (λ m. Read G l m ds) n rr, subst (λ m. drop m l ≡ u) n er)

size_flat : (f : Bush) → length (flat f) ≡ size f
size_flat nil = refl
size_flat (grow p cs rest) = let a = size_flat cs in let b = size_flat rest in omega (arith, length-append (flat cs) (flat rest))

pub read_drawn : {G : Grammar} {l : List ℕ} → Read G l (length l) [] → (f : Bush) × Drawn G l f
read_drawn {G} {l} r =
    let (f, m, e) = grown G l r nil tt (sym (drop-length l)) in
    let (k, s) = met_kinded G f 1 (G.start ∷ []) m in
    (f, record { kinded = k; shallow = s; bytes = e })

pub drawn_read : {G : Grammar} {l : List ℕ} {f : Bush} → Drawn G l f → Read G l (length l) []
drawn_read {G} {l} {f} d =
    let e : l ≡ flat f ++ [] = sym d.bytes ∙ sym (append-nil (flat f)) in
    let (r, x) = through G l f (G.start ∷ []) 1 0 [] [] d.kinded d.shallow e (begun refl) in
    let n : 0 + size f ≡ length l = omega (arith, size_flat f, ap length d.bytes) in
    subst (λ m. Read G l m []) n r

-- where no row applies, every byte is read and nothing is due at the end
module _ (b l : List ℕ) (free : (n p : ℕ) → Applies b l n p → ⊥) where
  pub free_sound : Sound b
  free_sound f a = free f.0 f.1 (of_book a)

  pub free_length : (1 ≤ length l) × (length l ≤ max_nodes)
  free_length = go (dec_le 1 (length l)) (dec_le (length l) max_nodes)
    where
      go : Dec (1 ≤ length l) → Dec (length l ≤ max_nodes) → (1 ≤ length l) × (length l ≤ max_nodes)
      go (yes h) (yes k) = (h, k)
      go (no h) k = absurd (free 20 0 (bad_length (inl (omega arith))))
      go (yes h) (no k) = absurd (free 20 0 (bad_length (inr (omega arith))))

  -- whatever is due at i, byte i is of that kind
  onward : (i : ℕ) (ds : List Node) → i < length l → Read (grammar b) l i ds → (es : List Node) × Read (grammar b) l (suc i) es
  onward i [] h r = absurd (free 22 i (bytes_left i r h))
  onward i ((k, v) ∷ ds) h r = go (dec_lt (get_or l i 0) (grammar b).prods) (ℕ_discrete ((grammar b).left (get_or l i 0)) k) (dec_le v max_levels)
    where
      go : Dec (get_or l i 0 < (grammar b).prods) → Dec ((grammar b).left (get_or l i 0) ≡ k) → Dec (v ≤ max_levels) → (es : List Node) × Read (grammar b) l (suc i) es
      go (yes x) (yes y) (yes z) = (_, further r h (x, y) z refl)
      go (no x) y z = absurd (free 21 i (no_production i ((k, v) ∷ ds) r h (omega arith)))
      go (yes x) (no y) z = absurd (free 22 i (other_kind i k v ds r h y))
      go (yes x) (yes y) (no z) = absurd (free 23 i (too_deep i k v ds r h (omega arith)))

  all_read : (i : ℕ) → i ≤ length l → (ds : List Node) × Read (grammar b) l i ds
  all_read zero h = (_, begun refl)
  all_read (suc i) h = let (ds, r) = all_read i (omega arith) in onward i ds h r

  pub free_read : Read (grammar b) l (length l) []
  free_read = let (ds, r) = all_read (length l) (omega arith) in go ds r
    where
      go : (ds : List Node) → Read (grammar b) l (length l) ds → Read (grammar b) l (length l) []
      go [] r = r
      go (d ∷ ds) r = absurd (free 22 (length l) (ends_early d ds r))

-- THEOREM: a sheet is accepted exactly when its book is, it has 1 to 4,096 bytes, and some tree under the start, of at most 64 levels, has these bytes
pub sheet_tree : (b l cs : List ℕ) → SheetDue b l (accepted cs) ↔ (Fits b l × (cs ≡ length l ∷ all_settings (grammar b) l ∷ []))
sheet_tree b l cs = (
  λ (e, none). let free : (n p : ℕ) → Applies b l n p → ⊥ = λ n p a. none (n, p) a in
      let (f, d) = read_drawn (free_read b l free) in
      (record { sound = free_sound b l free; some = (free_length b l free).0; few = (free_length b l free).1; tree = f; drawn = d }, e),
  λ (w, e). (e, (read_accepted w.sound w.some w.few (drawn_read w.drawn)).1),
)

-- THEOREM: and then it is one tree only
pub one_tree : {G : Grammar} {l : List ℕ} {f g : Bush} → Drawn G l f → Drawn G l g → f ≡ g
one_tree {G} {l} {f} {g} d e = one_forest G (G.start ∷ []) f g d.kinded e.kinded (d.bytes ∙ sym e.bytes)
