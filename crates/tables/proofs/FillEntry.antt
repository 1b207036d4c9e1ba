-- One entry: the ranks that it holds, its labels, and the run of one that it is.
use mathlib.Core.Path.{◌≡◌, refl, sym, ap, ◌∙◌, subst}
use mathlib.Core.List.{List, [], ◌∷◌, ◌++◌, append-nil}
use Prim.Native.Nat.{ℕ, suc, ◌+◌, ◌*◌, ◌≤◌, ◌<◌}
use native.Mathlib.Nat.{add-zero}
use native.Mathlib.Omega.{arith}
use borrow.Author.Count.{below_more}
use lib.ListN.{length, get_or, take, drop, set, length-append, length-set, take-append-drop, get_or-append}
use lib.Seq.{append_snoc, set_split, take_at, get_or-append-add, get_or-append_seam}
use Rattle.std.specs.Prelude.{Option, is_some, IsSome}
use Rattle.lists.specs.Part.{place}
use Rattle.lists.proofs.Carry.{placed}
use Rattle.chains.specs.Limits.{max_kids, max_members}
use Rattle.ranks.specs.Entries.{labels, entry_bytes, none}
use Rattle.members.specs.Sets.{Has, Placed, Sought}
use Rattle.members.proofs.Seeking.{search_finds}
use Rattle.tables.specs.State.{tidied}
use Rattle.tables.specs.Fill.{Ready, RankOn, ChildRank, ChildRanks, DownBytes, EntriesLaid}
use Rattle.tables.specs.declared.shape.Shape.{Shape}
use Rattle.tables.proofs.StateTidy.{tidy_state}
use Rattle.tables.proofs.FillRuns.{place_behind, laid_one}

-- ── a rank ──
-- a member is found
pub rank_found : {f d : List ℕ} {k y : ℕ} {r : Option ℕ} → Placed f d k → Has f d k y → Sought f (k * max_members) (get_or d k 0) y r → IsSome r
rank_found {f} {d} {k} {y} {r} p m q =
    let fits : k * max_members + get_or d k 0 ≤ length f = omega (arith, p.there, p.few) in
    let (i, e, l) = search_finds f (k * max_members) (get_or d k 0) y r fits (q.there fits) m in
    ap is_some e

-- ── the children's ranks ──
pub no_ranks : (f d : List ℕ) (v : Shape) (x out : List ℕ) (a : ℕ) → ChildRanks f d v x 0 out a out
no_ranks f d v x out a = record { list = []; many = refl; each = λ j l. absurd (omega arith); held = rw (add-zero, append-nil, take-append-drop); long = refl }

-- one more rank behind those of the first n children
pub more_ranks : {f d : List ℕ} {v : Shape} {x : List ℕ} {n : ℕ} {out : List ℕ} {a : ℕ} {out' : List ℕ} → ChildRanks f d v x n out a out' → a + n < length out
    → {r : ℕ} → ChildRank f d v x n r → ChildRanks f d v x (n + 1) out a (set out' (a + n) r)
more_ranks {f} {d} {v} {x} {n} {out} {a} {out'} h l {r} c = record {
  list = h.list ++ r ∷ [];
  many = length-append h.list (r ∷ []) ∙ ap (λ (m : ℕ). m + 1) h.many;
  each = below_more (λ j. ChildRank f d v x j (get_or (h.list ++ r ∷ []) j none)) n
      (λ j k. rw (get_or-append h.list (r ∷ []) none j (omega (arith, h.many))) (h.each j k))
      (subst (ChildRank f d v x n) (sym last) c);
  held = ap (λ (u : List ℕ). set u (a + n) r) h.held ∙ ap (λ (m : ℕ). set (place a h.list out) (a + m) r) (sym h.many)
      ∙ placed out a h.list (omega (arith, h.many)) r;
  long = length-set out' (a + n) r ∙ h.long;
}
  where
    last : get_or (h.list ++ r ∷ []) n none ≡ r
    last = ap (λ (m : ℕ). get_or (h.list ++ r ∷ []) m none) (sym h.many) ∙ get_or-append_seam h.list r [] none

pub ranks_done : {f d : List ℕ} {v : Shape} {x : List ℕ} {n : ℕ} {out : List ℕ} {a : ℕ} {out' : List ℕ} → ChildRanks f d v x n out a out' → n ≡ max_kids
    → ChildRanks f d v x max_kids out a out'
ranks_done {f} {d} {v} {x} {n} {out} {a} {out'} h e = subst (λ n. ChildRanks f d v x n out a out') e h

-- ── whole entries ──
pub up_put : {f d : List ℕ} {v : Shape} {x : List ℕ} (out : List ℕ) (a : ℕ) {r : ℕ} → RankOn f d v 0 x r → a + 1 ≤ length out
    → EntriesLaid 1 1 (λ i e. RankOn f d v 0 x (get_or e 0 none)) out a (set out a r) (a + 1)
up_put {f} {d} {v} {x} out a {r} h room =
    let e : a + 1 ≡ suc a = omega arith in
    let p : set out a r ≡ place a (r ∷ []) out = rw e (set_split out a r (omega arith) ∙ sym (append_snoc (take a out) r (drop (suc a) out))) in
    laid_one (λ i e. RankOn f d v 0 x (get_or e 0 none)) refl h room p

pub down_put : {f d : List ℕ} {v : Shape} {x out : List ℕ} {a : ℕ} {out' out'' : List ℕ} {b : ℕ} → Ready v x → a + entry_bytes ≤ length out → b ≡ a + labels
    → out' ≡ place a (tidied x) out → ChildRanks f d v x max_kids out' b out'' → EntriesLaid entry_bytes 1 (λ i e. DownBytes f d v x e) out a out'' (a + entry_bytes)
down_put {f} {d} {v} {x} {out} {a} {out'} {out''} {b} h room at e k = laid_one (λ i e. DownBytes f d v x e) long bytes room held
  where
    many : length (tidied x) ≡ labels
    many = (tidy_state h.state).long

    long : length (tidied x ++ k.list) ≡ entry_bytes
    long = omega (arith, length-append (tidied x) k.list, many, k.many)

    bytes : DownBytes f d v x (tidied x ++ k.list)
    bytes = record {
      blocks = take_at (tidied x) k.list labels many;
      ranks = λ j m. subst (ChildRank f d v x j) (sym (behind j)) (k.each j m);
    }
      where
        behind : (j : ℕ) → get_or (tidied x ++ k.list) (labels + j) none ≡ get_or k.list j none
        behind j = ap (λ (i : ℕ). get_or (tidied x ++ k.list) (i + j) none) (sym many) ∙ get_or-append-add (tidied x) k.list j none

    held : out'' ≡ place a (tidied x ++ k.list) out
    held =
        let q : b ≡ a + length (tidied x) = omega (arith, many) in
        k.held ∙ ap (λ (u : List ℕ). place b k.list u) e ∙ ap (λ (i : ℕ). place i k.list (place a (tidied x) out)) q
        ∙ place_behind out (tidied x) k.list a (omega (arith, many, k.many))
