-- `put_zeros` meets its contract: zeros stand between what was before and behind them.
use Rattle.std.proofs.Common.{ℕ, zero, suc, ◌+◌, ◌-◌, ◌≤◌, ◌≡◌, refl, sym, ap, ◌∙◌, List, ◌++◌, length, take, drop, replicate, length-take-le, length-drop, append_assoc, add-one, arith}
use Rattle.std.proofs.lemmas.List.{drop-drop, replicate_more}
use Rattle.std.proofs.lemmas.List.Edits.{sets-eq}
use Rattle.network_writer.specs.WritesNetwork.{joined}
use Rattle.network_writer.specs.RowBytes.{row_bytes, Puts}
use Rattle.network_writer.specs.RowBytesLaws.{zero_byte, length-row}
use Rattle.network_writer.proofs.bytes.put_zeros.Goals as goal

zeros : (n : ℕ) → replicate n 0 ≡ row_bytes 0 n
unfolding joined
zeros zero = refl
zeros (suc n) = rw (zero_byte n, ← zeros n) (ap (λ k. replicate k 0) (sym (add-one n)) ∙ sym (replicate_more n 0))

between : (old middle : List ℕ) (start size : ℕ) → start + size ≤ length old → middle ≡ replicate (length (take (start + size - start) (drop start old))) 0
    → Puts old start (row_bytes 0 size) (take start old ++ (middle ++ drop (start + size - start) (drop start old))) (start + size)
between old middle start size room filled =
    let length_row : length (row_bytes 0 size) ≡ size = length-row 0 size in
    let part : length (take (start + size - start) (drop start old)) ≡ size =
    length-take-le (start + size - start) (drop start old) (rw (length-drop start old) (omega arith)) ∙ omega arith in
    let end : start + (start + size - start) ≡ start + length (row_bytes 0 size) = omega arith in
    record {
      stored = rw (filled, part, zeros size, drop-drop (start + size - start) start old, end) (sym (rw append_assoc at (sets-eq (row_bytes 0 size) old start (omega arith))));
      end = omega arith;
    }

pub returns : goal.returns
returns c = between _ _ _ _ c.requires (c.fill.ensures.after (λ y e. e))
