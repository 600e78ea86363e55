-- How the answers of batches, one after another, and stopping give what a block promises.
use Rattle.std.specs.Prelude.{Bool, true, false, List, [], ◌++◌, ◌⊎◌, ◌≡◌, refl, ℕ, suc, ◌+◌, ◌-◌, ◌*◌, ◌/◌, ◌<◌, ◌≤◌, eqb, length, get_or, take, drop}
use Rattle.std.proofs.Common.{true≢false, append_assoc, append-nil, inl, inr, sym, ap, ◌∙◌, arith, eqb-true, length-append, length-drop, drop-drop, take_all, length-take-le}
use Rattle.std.proofs.lemmas.Bool.{eqb-false}
use Rattle.std.proofs.Math.Seq.{slice}
use Rattle.std.proofs.lemmas.List.{take-append-le}
use Rattle.io.specs.Counts.{IsPrefixLen}
use Rattle.base.specs.Result.{Result}
use Rattle.byte_parts.specs.Least.{Least}
use Rattle.roles.specs.Role.{Chain}
use Rattle.query_causes.specs.Input.{links_of, Broken, is_whole}
use Rattle.transcript_lines.specs.Lines.{answer_line}
use Rattle.transcript_lines.specs.LinesLaws.{line_short}
use Rattle.transcript_lines.specs.Block.{Stopped, Block}
use Rattle.transcript_lines.specs.Block.Stopped.{no_question, no_room, no_number}
use Rattle.transcript_lines.specs.Block.Block.{stopped, answered}
use Rattle.transcript_lines.specs.BlockLaws.{next_here}
use Rattle.query_answerer.specs.Batch.{told, Batched, Batches}
use Rattle.query_answerer.specs.Batch.Batched.{none, more}
use Rattle.query_answerer.specs.declared.batch.Batch.{Batch}
use Rattle.line_writer.specs.Puts.{Puts}
use Rattle.line_writer.specs.PutsLaws.{puts_none, puts_then, puts-front, puts-length}
use Rattle.line_writer.specs.Said.{answer_lines, WritesLines}
use Rattle.transcript_writer.specs.declared.block.Reached.{Reached}
use Rattle.transcript_writer.specs.Advances.{AnswersBlock, Advances, Advanced, LinesIn}

-- the lesser of two numbers, or three times it, as how many of a list to take
take_past : (s : List ℕ) (m n : ℕ) → (m ≡ n) ⊎ (length s ≤ m) → m ≤ n → take m s ≡ take n s
take_past s m n (inl e) l = ap (λ (k : ℕ). take k s) e
take_past s m n (inr h) l = take_all m s h ∙ sym (take_all n s (omega arith))

module _ {a b r : ℕ} (l : Least a b r) (s : List ℕ) where
  pub least-counts : length s ≡ b → IsPrefixLen r s
  least-counts e = let within : r ≤ length s = omega (arith, l.right, e) in (within, sym (length-take-le r s within))

  pub triples_count : length s ≡ 3 * b → IsPrefixLen (3 * r) s
  triples_count e = let within : 3 * r ≤ length s = omega (arith, l.right, e) in (within, sym (length-take-le (3 * r) s within))

  pub take-least : length s ≡ b → take r s ≡ take a s
  take-least e = take_past s r a (by-either l.either) l.left
    where
      by-either : (r ≡ a) ⊎ (r ≡ b) → (r ≡ a) ⊎ (length s ≤ r)
      by-either (inl f) = inl f
      by-either (inr f) = inr (omega (arith, e, f))

  pub take_triples : length s ≡ 3 * b → take (3 * r) s ≡ take (3 * a) s
  take_triples e = take_past s (3 * r) (3 * a) (by-either l.either) (omega (arith, l.left))
    where
      by-either : (r ≡ a) ⊎ (r ≡ b) → (3 * r ≡ 3 * a) ⊎ (length s ≤ 3 * r)
      by-either (inl f) = inl (omega (arith, f))
      by-either (inr f) = inr (omega (arith, e, f))

-- how many lines there are room and numbers for
pub lines_in : {more : Bool} {room k lines count : ℕ} → more ≡ true → Least (room / 64) 1024 lines → Least lines (18446744073709551615 - k) count
    → k ≤ 18446744073709551615 → LinesIn more room k count
lines_in {more} {room} {k} {lines} {count} t l m h =
    record {
      few = omega (arith, l.right, m.left);
      fits = omega (arith, l.left, m.left);
      numbers = omega (arith, m.right);
      ends = λ e. absurd (true≢false (sym t ∙ e));
      none = λ e. inr (by-either e l.either m.either);
    }
  where
    by-either : count ≡ 0 → (lines ≡ room / 64) ⊎ (lines ≡ 1024) → (count ≡ lines) ⊎ (count ≡ 18446744073709551615 - k)
        → (room < 64) ⊎ (18446744073709551615 ≤ k)
    by-either e f (inr g) = inr (omega (arith, e, g))
    by-either e (inl f) (inl g) = inl (omega (arith, e, f, g))
    by-either e (inr f) (inl g) = inl (omega (arith, e, f, g))

pub no-lines_in : {more : Bool} {room k : ℕ} → more ≡ false → k ≤ 18446744073709551615 → LinesIn more room k 0
no-lines_in e l = record { few = omega arith; fits = omega arith; numbers = omega arith; ends = λ f. refl; none = λ z. inl e }

stops-by : {more : Bool} {q : List ℕ} {room k : ℕ} → (more ≡ false) ⊎ ((room < 64) ⊎ (18446744073709551615 ≤ k)) → (more ≡ false → Broken q) → Stopped k q room
stops-by (inl e) broken = no_question (broken e)
stops-by (inr (inl h)) broken = no_room h
stops-by (inr (inr h)) broken = no_number h

-- what answers of a batch say of its questions
module _ (Says : ℕ → Chain → Result Bool → Type 0) where
  batched_within : (s : List ℕ) (n : ℕ) (bytes : List ℕ) → Batched Says s n bytes → n ≤ length s
  batched_within _ _ _ (none s) = omega arith
  batched_within _ _ _ (more s byte n bytes w a b) = omega (arith, w, batched_within _ n bytes b, length-drop (3 + (get_or s 1 0 + 256 * get_or s 2 0)) s)

  batched_some : (s : List ℕ) (n : ℕ) (bytes : List ℕ) → Batched Says s n bytes → 0 < length bytes → 0 < n
  batched_some _ _ _ (none s) l = absurd (let f : ⊥ = omega (arith, l) in f)
  batched_some _ _ _ (more s byte n bytes w a b) l = omega arith

  -- with room and numbers for their lines, the answers are the front of a block
  batched_completes : (s : List ℕ) (n : ℕ) (bytes : List ℕ) → Batched Says s n bytes → (k room : ℕ) (lines : List ℕ) (k' : ℕ) (rest : List ℕ)
      → 64 * length bytes ≤ room → k + length bytes ≤ 18446744073709551615
      → Block Says (k + length bytes) (drop n s) (room - length (answer_lines k bytes)) lines k' rest
      → Block Says k s room (answer_lines k bytes ++ lines) k' rest
  batched_completes _ _ _ (none s) k room lines k' rest fits few t =
      let same : k + 0 ≡ k = omega arith in
      let all : room - 0 ≡ room = omega arith in
      rw (same, all) at t
  batched_completes _ _ _ (more s byte n bytes w a b) k room lines k' rest fits few t =
      let sum : k + suc (length bytes) ≡ suc k + length bytes = omega arith in
      let short = line_short k (told byte) in
      let left : room - length (answer_line k (told byte) ++ answer_lines (suc k) bytes)
      ≡ room - length (answer_line k (told byte)) - length (answer_lines (suc k) bytes) =
      omega (arith, length-append (answer_line k (told byte)) (answer_lines (suc k) bytes)) in
      let ih = batched_completes (drop (3 + links_of s) s) n bytes b (suc k) (room - length (answer_line k (told byte))) lines k' rest
      (omega (arith, short, fits)) (omega (arith, few)) (rw (sum, left, ← drop-drop n (3 + links_of s) s) at t) in
      rw (append_assoc (answer_line k (told byte)) (answer_lines (suc k) bytes) lines)
      (answered {k = k} {room = room} (next_here s w) (omega (arith, fits)) (omega (arith, few)) a ih)

-- nothing is read yet
pub advanced_none : {Says : ℕ → Chain → Result Bool → Type 0} {q out : List ℕ} {k most : ℕ} → LinesIn true (length out) k most → Advanced Says k q out k 0 0 most out
advanced_none {q = q} {out} {k} l =
    let all : length out - 0 ≡ length out = omega arith in
    record {
      lines = [];
      puts = puts_none out 0 (omega arith);
      same = refl;
      within = omega arith;
      completes = λ lines k'' rest b. rw all at b;
      few = l.few;
      room = rw all l.fits;
      numbers = l.numbers;
      stops = λ e. rw all (stops-by (l.none e) (λ f. absurd (true≢false f)));
    }

module _ {Says : ℕ → Chain → Result Bool → Type 0} {q out out' : List ℕ} {k k' read written most : ℕ} (a : Advanced Says k q out k' read written most out') where
  -- no more lines
  pub advances : most ≤ 0 → Advances Says k q out out' (record { number = k'; read = read; written = written })
  advances h =
      record {
        lines = a.lines;
        block = rw (append-nil a.lines) at (a.completes [] k' (drop read q) (stopped (a.stops (omega (arith, h)))));
        puts = a.puts;
        within = a.within;
      }

  -- one more batch, whose answers are lent the first `most` bytes of a buffer
  module _ (buffer : List ℕ) (long : length buffer ≡ 1024) {answers : List ℕ} {b : Batch}
      (lent : Batches Says (take (length q - read) (drop read q)) (take most buffer) answers b) where
    batch : Batches Says (drop read q) (take most buffer) answers b
    batch = rw (take_all (length q - read) (drop read q) (omega (arith, length-drop read q))) at lent

    lent-size : length (take most buffer) ≡ most
    lent-size = length-take-le most buffer (omega (arith, long, a.few))

    pub batch_few : b.answered ≤ most
    batch_few = omega (arith, batch.fits, lent-size)

    batch_long : b.answered ≤ length answers
    batch_long = omega (arith, batch.fits, batch.same)

    pub batch_fits : b.answered ≤ length (answers ++ drop most buffer)
    batch_fits = omega (arith, batch_long, length-append answers (drop most buffer))

    pub batch_within : read + b.read ≤ length q
    batch_within = omega (arith, a.within, batched_within Says (drop read q) b.read (take b.answered answers) batch.written, length-drop read q)

    bytes_long : length (take b.answered answers) ≡ b.answered
    bytes_long = length-take-le b.answered answers batch_long

    -- something is read, or this is the last
    pub batch_less : {room k'' most' : ℕ} → 0 < most → LinesIn (eqb b.answered most) room k'' most'
        → 1025 * (length q - (read + b.read)) + most' < 1025 * (length q - read) + most
    batch_less {most' = most'} some l = by_test (eqb b.answered most) refl
      where
        by_test : (t : Bool) → eqb b.answered most ≡ t → 1025 * (length q - (read + b.read)) + most' < 1025 * (length q - read) + most
        by_test false e = omega (arith, l.ends e, some)
        by_test true e =
            let all : b.answered ≡ most = eqb-true b.answered most e in
            let goes : 0 < b.read =
            batched_some Says (drop read q) b.read (take b.answered answers) batch.written (omega (arith, bytes_long, all, some)) in
            omega (arith, goes, l.few, batch_within)

    module _ {out'' : List ℕ} {written'' : ℕ} (w : WritesLines out' written k' (take b.answered (answers ++ drop most buffer)) out'' written'') where
      batch_puts : Puts out' written (answer_lines k' (take b.answered answers)) out'' written''
      batch_puts =
          let same : take b.answered (answers ++ drop most buffer) ≡ take b.answered answers = take-append-le b.answered answers (drop most buffer) batch_long in
          (rw same at w).puts (omega (arith, bytes_long, batch_few, a.room, a.same, a.puts.fits), omega (arith, bytes_long, batch_few, a.numbers))

      pub batch_same : length out'' ≡ length out
      batch_same = puts-length batch_puts ∙ a.same

      pub batch_written : written'' ≤ length out''
      batch_written = omega (arith, batch_puts.fits, puts-length batch_puts)

      pub advanced_next : {most' : ℕ} → LinesIn (eqb b.answered most) (length out'' - written'') (k' + b.answered) most'
          → Advanced Says k q out (k' + b.answered) (read + b.read) written'' most' out''
      advanced_next l =
          let bytes : List ℕ = take b.answered answers in
          let ends : written'' ≡ written + length (answer_lines k' bytes) = batch_puts.ends in
          let left : length out - written - length (answer_lines k' bytes) ≡ length out - written'' = omega (arith, ends) in
          record {
            lines = a.lines ++ answer_lines k' bytes;
            puts = puts_then a.puts batch_puts;
            same = batch_same;
            within = batch_within;
            completes = λ lines k'' rest t.
                rw (append_assoc a.lines (answer_lines k' bytes) lines)
                (a.completes (answer_lines k' bytes ++ lines) k'' rest
                (batched_completes Says (drop read q) b.read bytes batch.written k' (length out - written) lines k'' rest
                (omega (arith, bytes_long, batch_few, a.room)) (omega (arith, bytes_long, batch_few, a.numbers))
                (rw (bytes_long, left, drop-drop b.read read q) t)));
            few = l.few;
            room = rw (← batch_same) l.fits;
            numbers = l.numbers;
            stops = λ e. rw (← batch_same) (stops-by (l.none e) (λ f. rw (drop-drop b.read read q) at (by-reason (eqb-false b.answered most f) batch.stopped)));
          }
        where
          by-reason : (b.answered ≡ most → ⊥) → (b.answered ≡ length (take most buffer)) ⊎ Broken (drop b.read (drop read q))
              → Broken (drop b.read (drop read q))
          by-reason other (inl e) = absurd (other (e ∙ lent-size))
          by-reason other (inr h) = h

-- the same tables under other names
pub advances_as : (Says : (heads moves : List ℕ) → ℕ → Chain → Result Bool → Type 0) {hs ms hs' ms' q out out' : List ℕ} {k : ℕ} {p : Reached} → hs ≡ hs'
    → ms ≡ ms' → Advances (Says hs ms) k q out out' p → Advances (Says hs' ms') k q out out' p
advances_as Says e f a = rw (← e, ← f) a

-- what is left of a block is moved to the front of the input
module _ (q : List ℕ) {Says : ℕ → Chain → Result Bool → Type 0} {out out' : List ℕ} {k end size : ℕ} {p : Reached} (front : Least end (length q) size) (a : Advances Says k (take size q) out out' p) where
  pub read-within : p.read ≤ size
  read-within = omega (arith, a.within, length-take-le size q front.right)

  pub answers-kept : {q' : List ℕ} {kept : ℕ} {left : Bool} → Puts q 0 (slice p.read size q) q' kept → left ≡ is_whole (take kept q')
      → AnswersBlock Says k q end out q' out' (record { number = p.number; kept = kept; written = p.written; left = left })
  answers-kept {q'} {kept} keeps e =
      record {
        lines = a.lines;
        rest = slice p.read size q;
        block = rw (← take-least front q refl) a.block;
        puts = a.puts;
        keeps = keeps;
        left = e ∙ ap is_whole (puts-front keeps);
      }
