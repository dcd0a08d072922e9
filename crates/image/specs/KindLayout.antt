-- Document 01: "kind 0 to 6 in the order above", "code 0 tombstone or kind + 1".
use Rattle.std.specs.Prelude.{ℕ, zero, suc, ◌≤◌, ◌≡◌, refl, None, Option, Some}
use Rattle.std.proofs.Common.{arith}
use Rattle.wire.specs.Codec.{Codec}
use Rattle.wire.specs.Number.{coded}
use Rattle.image.specs.Meaning.{Kind, directory, file, symlink, special, pipe, character, block, socket, kind_number}

-- the kind of a number from 0 to 6
abbrev pub kind_at : ℕ → Kind
kind_at zero = directory
kind_at (suc zero) = file
kind_at (suc (suc zero)) = symlink
kind_at (suc (suc (suc zero))) = special pipe
kind_at (suc (suc (suc (suc zero)))) = special character
kind_at (suc (suc (suc (suc (suc zero))))) = special block
kind_at (suc (suc (suc (suc (suc (suc n)))))) = special socket

pub kind-number : (k : Kind) → kind_at (kind_number k) ≡ k
kind-number directory = refl
kind-number file = refl
kind-number symlink = refl
kind-number (special pipe) = refl
kind-number (special character) = refl
kind-number (special block) = refl
kind-number (special socket) = refl

pub number-kind : (n : ℕ) → n ≤ 6 → kind_number (kind_at n) ≡ n
number-kind zero h = refl
number-kind (suc zero) h = refl
number-kind (suc (suc zero)) h = refl
number-kind (suc (suc (suc zero))) h = refl
number-kind (suc (suc (suc (suc zero)))) h = refl
number-kind (suc (suc (suc (suc (suc zero))))) h = refl
number-kind (suc (suc (suc (suc (suc (suc n)))))) h = omega arith

pub kind-small : (k : Kind) → kind_number k ≤ 6
kind-small directory = omega arith
kind-small file = omega arith
kind-small symlink = omega arith
kind-small (special pipe) = omega arith
kind-small (special character) = omega arith
kind-small (special block) = omega arith
kind-small (special socket) = omega arith

unfoldable pub kind : Codec Kind
kind = coded 6 refl kind_at kind_number kind-number number-kind kind-small

-- no kind for a tombstone
abbrev pub code_at : ℕ → Option Kind
code_at zero = None
code_at (suc n) = Some (kind_at n)

abbrev pub code_number : Option Kind → ℕ
code_number None = 0
code_number (Some k) = suc (kind_number k)

pub code-number : (c : Option Kind) → code_at (code_number c) ≡ c
code-number None = refl
code-number (Some k) = rw (kind-number k)

pub number-code : (n : ℕ) → n ≤ 7 → code_number (code_at n) ≡ n
number-code zero h = refl
number-code (suc n) h = rw (number-kind n (omega arith))

pub code-small : (c : Option Kind) → code_number c ≤ 7
code-small None = omega arith
code-small (Some k) = omega (arith, kind-small k)

unfoldable pub code : Codec (Option Kind)
code = coded 7 refl code_at code_number code-number number-code code-small
