use mathlib.Core.Path.{◌∙◌, ap}
use Prim.Native.Nat.{◌/◌, ◌%◌, ◌^◌}
use lib.Bits.{and_mask}
use Rattle.bookcheck.proofs.Tying.{target_of_left, target_of_kid}
use Rattle.bookcheck.proofs.ties.is_target.Goals as goal

pub returns-then-s-eq0 : goal.returns-then-s-eq0
returns-then-s-eq0 c =
    let i = c.setting.result in
    let bit = and_mask (c.mask.result / 2 ^ i) 1 ∙ ap (λ m. m / 2 ^ i % 2) c.mask.ensures in
    target_of_left c.requires.0 c.args.o c.slot-s.ensures c.kind_in.ensures c.setting.ensures c.requires.1.0 bit c.if-s-eq0.true

pub returns : goal.returns
returns c =
    let i = c.setting.result in
    let bit = and_mask (c.mask.result / 2 ^ i) 1 ∙ ap (λ m. m / 2 ^ i % 2) c.mask.ensures in
    target_of_kid c.requires.0 c.args.o c.slot-s.ensures c.kind_in.ensures c.setting.ensures c.requires.1.0 bit c.if-s-eq0.false
