-- Document 01: "A time is seconds (signed 64 bits; s as 2s, or −2s − 1 if negative), then nanoseconds below 1,000,000,000."
use Rattle.std.specs.Prelude.{◌≡◌, refl, Bool, true, false, cond, ℕ, ◌+◌, ◌*◌, ◌/◌, ◌%◌, ◌≤◌, eqb, ℤ, pos, negsuc}
use Rattle.std.proofs.Common.{arith, eqb-true, SFits}
use Rattle.std.proofs.lemmas.Bool.{eqb-false}
use Rattle.std.specs.Int.{w64}
use Rattle.wire.specs.Codec.{Codec}
use Rattle.wire.specs.Combinators.{◌then◌, via, restated}
use Rattle.wire.specs.Number.{edge, number_to}
use Rattle.wire.specs.declared.time.Time.{Time}

-- `negsuc n` is −n − 1
abbrev pub zigzag : ℤ → ℕ
zigzag (pos n) = 2 * n
zigzag (negsuc n) = 2 * n + 1

abbrev pub unzigzag : ℕ → ℤ
unzigzag z = cond (eqb (z % 2) 0) (pos (z / 2)) (negsuc (z / 2))

pub unzigzag-zigzag : (s : ℤ) → unzigzag (zigzag s) ≡ s
unzigzag-zigzag (pos n) =
    let e : 2 * n % 2 ≡ 0 = omega arith in
    let d : 2 * n / 2 ≡ n = omega arith in
    rw (e, d)
unzigzag-zigzag (negsuc n) =
    let e : (2 * n + 1) % 2 ≡ 1 = omega arith in
    let d : (2 * n + 1) / 2 ≡ n = omega arith in
    rw (e, d)

pub zigzag-unzigzag : (z : ℕ) → zigzag (unzigzag z) ≡ z
zigzag-unzigzag z = go (eqb (z % 2) 0) refl
  where
    go : (t : Bool) → eqb (z % 2) 0 ≡ t → zigzag (cond t (pos (z / 2)) (negsuc (z / 2))) ≡ z
    go true e = let d : z % 2 ≡ 0 = eqb-true (z % 2) 0 e in omega arith
    go false e = let d : z % 2 ≡ 0 → ⊥ = eqb-false (z % 2) 0 e in omega arith

pub signed-zigzag : (s : ℤ) → SFits w64 s → zigzag s ≤ edge
signed-zigzag (pos n) h = omega (arith, h.sfits)
signed-zigzag (negsuc n) h = omega (arith, h.sfits)

pub zigzag-signed : (s : ℤ) → zigzag s ≤ edge → SFits w64 s
zigzag-signed (pos n) h = record { sfits = omega arith }
zigzag-signed (negsuc n) h = record { sfits = omega arith }

abbrev pub seconds : Codec ℤ
seconds =
    restated (SFits w64) (via unzigzag zigzag unzigzag-zigzag (number_to edge refl) (λ z h. zigzag-unzigzag z))
    signed-zigzag zigzag-signed

abbrev pub nanos : Codec ℕ
nanos = number_to 999999999 refl

abbrev pub time_of : ℤ × ℕ → Time
time_of p = record { seconds = p.0; nanos = p.1 }

unfoldable pub time : Codec Time
time = via time_of (λ t. (t.seconds, t.nanos)) (λ t. refl) (seconds then nanos) (λ p h. refl)

abbrev pub epoch : Time
epoch = record { seconds = pos 0; nanos = 0 }
