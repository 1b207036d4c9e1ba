-- The loop that finds the place of each node's first setting.
use Rattle.std.proofs.Common.{◌≡◌, List, ℕ, ◌+◌, ◌*◌, ◌<◌, ◌≤◌, length, get_or, take, refl, sym, ap, ◌∙◌, arith, add-one}
use Rattle.std.proofs.Math.ListN.{set, length-set}
use Rattle.std.proofs.lemmas.List.{get_or-set_same, get_or-set_other}
use native.Mathlib.Decide.{ℕ_discrete}
use Rattle.chains.specs.Limits.{max_settings, max_nodes}
use Rattle.sheet.specs.Reading.{all_settings}
use Rattle.sheet.proofs.Reading.{settings_next}
use Rattle.numbering.specs.Nodes.{first_settings, OnlyPlaces}
use Rattle.numbering.specs.Parts.{grammar_in}
use Rattle.numbering.specs.Giving.{Placed}
use Rattle.numbering.specs.declared.call.Call.{Call}
use Rattle.numbering.specs.declared.nodes.Node.{Node}
use Rattle.numbering.proofs.Keeping.{unread, firsts_set, firsts_long, places_none, places_set, places_more}
use Rattle.numbering.proofs.Calls.{few_nodes}

-- the first i nodes have their places
pub record Placing (x : Call) (nodes₀ nodes : List Node) (next i : ℕ) : Type 0 where
  pub long : length nodes ≡ max_nodes
  pub only : OnlyPlaces nodes₀ nodes
  pub each : (m : ℕ) → m < i → get_or (first_settings nodes) m 0 ≡ all_settings (grammar_in x) (take m x.sheet.now)
  pub sum : next ≡ all_settings (grammar_in x) (take i x.sheet.now)
  pub small : next ≤ max_settings * i

pub placing_none : {x : Call} {nodes : List Node} → length nodes ≡ max_nodes → Placing x nodes nodes 0 0
unfolding all_settings
placing_none {nodes = nodes} l = record { long = l; only = places_none nodes; each = λ m h. absurd (omega arith); sum = refl; small = omega arith }

module _ {x : Call} {nodes₀ nodes : List Node} {next i : ℕ} (k : Placing x nodes₀ nodes next i) where
  pub placing_turn : {w : ℕ} → i < length x.sheet.now → w ≡ (grammar_in x).settings ((grammar_in x).left (get_or x.sheet.now i 0)) → w ≤ max_settings
      → (n : Node) → n.first_setting ≡ next → n.end ≡ (get_or nodes i unread).end → n.entry ≡ (get_or nodes i unread).entry
      → Placing x nodes₀ (set nodes i n) (next + w) (i + 1)
  placing_turn {w} h e m n ef ee et = record {
    long = length-set nodes i n ∙ k.long;
    only = places_more k.only (places_set nodes i n ee et);
    each = λ a b. ap (λ (s : List ℕ). get_or s a 0) (firsts_set nodes i n) ∙ go a b (ℕ_discrete a i);
    sum = rw (add-one i, k.sum, e) (sym (settings_next (grammar_in x) x.sheet.now i h));
    small = omega (arith, k.small);
  }
    where
      go : (a : ℕ) → a < i + 1 → Dec (a ≡ i) → get_or (set (first_settings nodes) i n.first_setting) a 0 ≡ all_settings (grammar_in x) (take a x.sheet.now)
      go a b (yes q) =
          ap (λ t. get_or (set (first_settings nodes) i n.first_setting) t 0) q
          ∙ get_or-set_same (first_settings nodes) i n.first_setting 0 (omega (arith, few_nodes x, firsts_long nodes, k.long))
          ∙ ef ∙ k.sum ∙ ap (λ t. all_settings (grammar_in x) (take t x.sheet.now)) (sym q)
      go a b (no q) = get_or-set_other (first_settings nodes) i a n.first_setting 0 q ∙ k.each a (omega arith)

  pub placing_done : length x.sheet.now ≤ i → Placed x nodes
  placing_done h = record { each = λ m l. k.each m (omega arith) }
