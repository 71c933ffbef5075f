-- The argument in the place of a port, by its place in the list.
use Rattle.std.proofs.Common.{◌≡◌, ℕ, zero, suc, ◌+◌, ◌<◌, ◌≤◌, List, [], ◌∷◌, length, get_or, refl, arith}
use Rattle.pyd_ir.specs.declared.arg.Arg.{Arg}
use Rattle.pyd_ir.specs.declared.arg.Arg.TheVariants.{Unbound}
use Rattle.pyd_refine.specs.Redirecting.{image}

pub image_within : (ports : List Arg) (port : ℕ) (a : Arg) → port < length ports
    → a ≡ get_or ports port a → a ≡ image ports port
image_within [] port a within e = absurd (let z : port < 0 = within in omega arith)
image_within (x ∷ xs) zero a within e = e
image_within (x ∷ xs) (suc port) a within e = image_within xs port a (omega arith) e

pub image_past : (ports : List Arg) (port : ℕ) → length ports ≤ port → Unbound ≡ image ports port
image_past [] port past = refl
image_past (x ∷ xs) zero past = absurd (let z : length xs + 1 ≤ 0 = omega arith in omega arith)
image_past (x ∷ xs) (suc port) past = image_past xs port (omega arith)
