-- How the parts of a line, and lines one after another, give what the lines of the program say.
use Rattle.std.specs.Prelude.{false, List, [], ◌∷◌, ◌++◌, ◌≡◌, refl, ℕ, zero, suc, ◌+◌, ◌^◌, ◌<◌, ◌≤◌, length, get_or, take}
use Rattle.std.proofs.Common.{true≢false, append_assoc, append-nil, sym, ap, ◌∙◌, arith, take-suc, take_all, length-take-le}
use Rattle.base.specs.Result.Result.{refused}
use Rattle.io.specs.Counts.{IsPrefixLen}
use Rattle.io.specs.Digits.{last_digits, IsDigitCount}
use Rattle.query_causes.specs.Input.{Whole, Broken}
use Rattle.query_answerer.specs.Batch.{told}
use Rattle.transcript_lines.specs.Lines.{decimal, space, end_line, yes_word, no_word, refused_word, cut_word, answer_line}
use Rattle.transcript_lines.specs.LinesLaws.{decimal_digits}
use Rattle.transcript_lines.specs.TranscriptLaws.{next-nothing, next-part}
use Rattle.transcript_lines.specs.Block.{ending}
use Rattle.transcript_lines.specs.BlockLaws.{next_here}
use Rattle.line_writer.specs.Puts.{Puts, PutsNumber, PutsPair}
use Rattle.line_writer.specs.PutsLaws.{puts_none, puts_then, puts_as, puts-length}
use Rattle.line_writer.specs.Said.{answer_lines, PutsAnswer, Room, HasRoom, WritesLines, LinesPut}

-- the digits of a number, and a word after them
pub number_digits : (n k : ℕ) (ds : List ℕ) → IsPrefixLen k ds × (IsDigitCount 10 1 n k × (take k ds ≡ last_digits 10 k n)) → n < 2 ^ 64
    → (take k ds ≡ decimal n) × (length (take k ds) ≤ 20)
number_digits n k ds d small = decimal_digits n k ds small d.0.1 d.1.0 d.1.1

pub puts-number : {out out₁ out₂ ds word : List ℕ} {at n middle end : ℕ} → (ds ≡ decimal n) × (length ds ≤ 20) → Puts out at ds out₁ middle
    → Puts out₁ middle word out₂ end → PutsNumber out at n word out₂ end
puts-number {word = word} d p q =
    record { puts = puts_as (puts_then p q) (ap (λ (t : List ℕ). t ++ word) d.0); short = omega (arith, d.1, p.ends, q.ends) }

-- a word and two numbers
pub puts-pair : {out out₁ out₂ out₃ word last : List ℕ} {a b start middle end : ℕ} → Puts out 0 word out₁ start → PutsNumber out₁ start a space out₂ middle
    → PutsNumber out₂ middle b last out₃ end → PutsPair out word a b last out₃ end
puts-pair p q r =
    record {
      puts = puts_as (puts_then (puts_then p q.puts) r.puts) (simp append_assoc);
      short = omega (arith, p.ends, q.short, r.short);
    }

-- and a third
pub puts_third : {out out₁ out₂ word : List ℕ} {a b c middle end : ℕ} → PutsPair out word a b space out₁ middle → PutsNumber out₁ middle c end_line out₂ end
    → Puts out 0 (word ++ decimal a ++ space ++ decimal b ++ space ++ decimal c ++ end_line) out₂ end
puts_third p q = puts_as (puts_then p.puts q.puts) (simp append_assoc)

-- the line of a question by its byte
told-refused : (b : ℕ) → (b ≡ 0 → ⊥) → (b ≡ 1 → ⊥) → told b ≡ refused b 0
told-refused zero e f = absurd (e refl)
told-refused (suc zero) e f = absurd (f refl)
told-refused (suc (suc b)) e f = refl

module _ {out out₁ : List ℕ} {at k middle : ℕ} (b : ℕ) where
  pub puts-no : b ≡ 0 → PutsNumber out at k no_word out₁ middle → PutsAnswer out at k b out₁ middle
  puts-no e p = record { puts = rw (ap told e) p.puts; short = omega (arith, p.short) }

  pub puts-yes : b ≡ 1 → PutsNumber out at k yes_word out₁ middle → PutsAnswer out at k b out₁ middle
  puts-yes e p = record { puts = rw (ap told e) p.puts; short = omega (arith, p.short) }

  pub puts-refused : {out₂ : List ℕ} {end : ℕ} → (b ≡ 0 → ⊥) → (b ≡ 1 → ⊥) → PutsNumber out at k refused_word out₁ middle
      → PutsNumber out₁ middle b end_line out₂ end → PutsAnswer out at k b out₂ end
  puts-refused e f p q =
      record { puts = rw (told-refused b e f) (puts_as (puts_then p.puts q.puts) (simp append_assoc)); short = omega (arith, p.short, q.short) }

-- there is no room
pub no_room : {size at k count : ℕ} → (Room size at k count → ⊥) → HasRoom size at k count false
no_room h = record { some = λ e. absurd (true≢false (sym e)); none = λ e. h }

-- one more line
lines_more : (k : ℕ) (bytes : List ℕ) (byte : ℕ) → answer_lines k (bytes ++ (byte ∷ [])) ≡ answer_lines k bytes ++ answer_line (k + length bytes) (told byte)
lines_more k [] byte =
    let same : k + 0 ≡ k = omega arith in
    rw same (append-nil (answer_line k (told byte)))
lines_more k (b ∷ bytes) byte =
    let sum : suc k + length bytes ≡ k + suc (length bytes) = omega arith in
    rw (append_assoc (answer_line k (told b)) (answer_lines (suc k) bytes) (answer_line (k + suc (length bytes)) (told byte)), ← sum)
    (ap (λ (s : List ℕ). answer_line k (told b) ++ s) (lines_more (suc k) bytes byte))

lines_next : (k : ℕ) (bytes : List ℕ) (i : ℕ) → i < length bytes
    → answer_lines k (take i bytes) ++ answer_line (k + i) (told (get_or bytes i 0)) ≡ answer_lines k (take (i + 1) bytes)
lines_next k bytes i l =
    let one : i + 1 ≡ suc i = omega arith in
    let size : length (take i bytes) ≡ i = length-take-le i bytes (omega arith) in
    sym (rw (one, take-suc bytes i 0 l) (rw size at (lines_more k (take i bytes) (get_or bytes i 0))))

module _ {out bytes : List ℕ} {at k : ℕ} where
  pub lines_none : Room (length out) at k (length bytes) → LinesPut out at k bytes 0 out at
  lines_none h =
      let same : at + 0 ≡ at = omega arith in
      record { room = h; within = omega arith; short = omega arith; same = refl; puts = rw same at (puts_none out at (omega (arith, h.0))) }

  pub lines-one : {out₁ out₂ : List ℕ} {i middle end : ℕ} → LinesPut out at k bytes i out₁ middle → i < length bytes
      → PutsAnswer out₁ middle (k + i) (get_or bytes i 0) out₂ end → LinesPut out at k bytes (i + 1) out₂ end
  lines-one {i = i} p h q =
      record {
        room = p.room;
        within = omega arith;
        short = omega (arith, p.short, q.short);
        same = puts-length q.puts ∙ p.same;
        puts = puts_as (puts_then p.puts q.puts) (lines_next k bytes i h);
      }

  pub lines-all : {out₁ : List ℕ} {i end : ℕ} → LinesPut out at k bytes i out₁ end → length bytes ≤ i → WritesLines out at k bytes out₁ end
  lines-all {i = i} p h =
      record { puts = λ r. puts_as p.puts (ap (answer_lines k) (take_all i bytes h)); none = λ r. absurd (r p.room) }

  pub no_lines : (Room (length out) at k (length bytes) → ⊥) → WritesLines out at k bytes out at
  no_lines h = record { puts = λ r. absurd (h r); none = λ r. (refl, refl) }

-- the last line by what stands at the front of the input: nothing, a whole question, or a part of one
module _ {out : List ℕ} (k : ℕ) (q : List ℕ) where
  pub ends-nothing : length q ≡ 0 → Puts out 0 (ending k q) out 0
  ends-nothing h = rw (next-nothing q h) (puts_none out 0 (omega arith))

  pub ends-whole : Whole q → Puts out 0 (ending k q) out 0
  ends-whole h = rw (next_here q h) (puts_none out 0 (omega arith))

  pub ends-part : {out' : List ℕ} {end : ℕ} → (length q ≡ 0 → ⊥) → Broken q → PutsNumber out 0 k cut_word out' end → Puts out 0 (ending k q) out' end
  ends-part some h p = rw (next-part q (omega arith) h) p.puts
