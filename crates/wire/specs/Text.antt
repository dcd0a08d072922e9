-- Document 01: "A text is its length, then bytes; names 1 to 255, targets to 4,095, values to 4,096."
-- Document 02, T-09: the length is a field of its own, judged before a byte of the text is looked at.
use Rattle.std.specs.Prelude.{◌≡◌, refl, List, ◌++◌, true, ℕ, ◌≤◌, length, leb}
use borrow.Author.Tests.{le-leb}
use Rattle.wire.specs.Parse.{Parsed, Extends, got, bind, check}
use Rattle.wire.specs.Codec.{Codec, Bytes, plain-append}
use Rattle.wire.specs.Combinators.{bytes, bytes_read, only, tagged}
use Rattle.wire.specs.Number.{edge, number_bytes, number_read, number-plain, number_to}
use Rattle.wire.specs.declared.fault.Fault.TheVariants.{Malformed}

abbrev pub text_bytes : List ℕ → List ℕ
text_bytes t = number_bytes (length t) ++ t

-- a length from `least` to `most`
abbrev pub length_read : ℕ → ℕ → List ℕ → Parsed ℕ
length_read least most s = bind (number_read most s) (λ n r. check Malformed (leb least n) (got n r))

-- a text of such a length
unfoldable pub text-read : ℕ → ℕ → List ℕ → Parsed (List ℕ)
text-read least most s = bind (length_read least most s) bytes_read

module _ (least most : ℕ) (e : leb most edge ≡ true) where
  abbrev pub FitsText : List ℕ → Type 0
  FitsText t = (least ≤ length t) × (length t ≤ most) × Bytes t

  abbrev pub framed : Codec (List ℕ)
  framed = tagged (only (leb least) (number_to most e)) length bytes (λ n l h. h.0)

  pub text-back : (t r : List ℕ) → FitsText t → text-read least most (text_bytes t ++ r) ≡ got t r
  unfolding text-read
  text-back t r h = framed.back t r ((h.1, le-leb least (length t) h.0), (refl, h.2))

  pub text-steady : (s t : List ℕ) → Extends t (text-read least most s) (text-read least most (s ++ t))
  unfolding text-read
  text-steady s t = framed.steady s t

  -- `refl` says that 64 bits hold `most`
  abbrev pub text : Codec (List ℕ)
  text = record {
    read = text-read least most;
    write = text_bytes;
    Fits = FitsText;
    back = text-back;
    steady = text-steady;
    plain = λ t h. plain-append (number_bytes (length t)) t (number-plain (length t)) h.2;
  }
