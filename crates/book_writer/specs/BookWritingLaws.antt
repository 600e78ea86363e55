-- A book in the making, from no rule over one rule more to a written book, and back; what is written decodes to the book.
use Rattle.std.specs.Prelude.{List, [], ◌∷◌, ◌++◌, ◌≡◌, refl, ℕ, ◌+◌, ◌<◌, ◌≤◌, length, take, drop}
use Rattle.std.proofs.Common.{append_assoc, ◌∙◌, zero-add, arith, length-append, length-drop, length-take-le, take_at, drop_at}
use Rattle.std.proofs.Math.Path.{sym}
use Rattle.std.proofs.lemmas.List.Edits.{sets, sets-eq}
use Rattle.std.proofs.Math.Seq.{length-sets}
use Rattle.base.specs.Result.Result.{ok}
use Rattle.roles.specs.Rule.{Rule, Book}
use Rattle.book_format.specs.Format.{decode}
use Rattle.book_format.specs.Encode.{header, rule_bytes, rules_bytes, encode, Encodable}
use Rattle.book_format.specs.EncodeLaws.{length-header, length-rule_bytes, length-encode, rules_bytes-last, rules_bytes-most, decode-front}
use Rattle.base.specs.WritingLaws.{sets_append}
use Rattle.book_writer.specs.BookStores.{RulePut, put_header}
use Rattle.book_writer.specs.BookStoreLaws.{put_rule-room, after_rule-room, put_header-room}
use Rattle.book_writer.specs.BookWriting.{Writing, Written}

-- bytes stored from byte 8 on, then eight in front of them
stores_in_front : (old w h : List ℕ) → length h ≡ 8 → 8 + length w ≤ length old → sets (sets old 8 w) 0 h ≡ (h ++ w) ++ drop (8 + length w) old
stores_in_front old w h e fit =
    sets-eq h (sets old 8 w) 0 (omega (arith, length-sets old 8 w))
    ∙ rw (
      zero-add,
      e,
      sets-eq w old 8 fit,
      append_assoc (take 8 old),
      drop_at (take 8 old) (w ++ drop (8 + length w) old) 8 (length-take-le 8 old (omega arith)),
      append_assoc h w,
    )
    refl

-- no rule yet
pub writing_start : {old : List ℕ} → 8 ≤ length old → Writing old old 8 []
unfolding rules_bytes
writing_start h = record { bytes = refl; place = refl; most = omega arith; fits = h }

module _ {old s : List ℕ} {at : ℕ} {ρs : List Rule} (w : Writing old s at ρs) where
  pub writing_length : length s ≡ length old
  writing_length = rw w.bytes (length-sets old 8 (rules_bytes ρs))

  -- in bytes that hold any book there is room for a rule more
  pub writing_room : length ρs < 256 → 2568 ≤ length old → at + 10 ≤ length old
  writing_room count size = omega (arith, w.most)

  -- a rule put at the place
  pub writing_next : {s' : List ℕ} {at' : ℕ} {ρ : Rule} → RulePut s at ρ s' at' → length ρ.left ≤ 8 → at + 2 + length ρ.left ≤ length old
      → Writing old s' at' (ρs ++ (ρ ∷ []))
  writing_next {s'} {at'} {ρ} p few room =
      let short : length ρ.left ≤ 255 = omega arith in
      let fit : at + 2 + length ρ.left ≤ length s = omega (arith, writing_length) in
      let e : at' ≡ at + 2 + length ρ.left = p.place ∙ after_rule-room s at ρ short fit in
      record {
        bytes =
            p.bytes ∙ put_rule-room s at ρ short fit
            ∙ rw (w.place, w.bytes, rules_bytes-last) (sets_append old 8 (rules_bytes ρs) (rule_bytes ρ));
        place = rw (e, w.place, rules_bytes-last, length-append, length-rule_bytes) (omega arith);
        most = rw length-append (omega (arith, e, w.most));
        fits = omega (arith, e);
      }

  -- the eight bytes in front, with the number of rules put
  pub writing_end : {s' : List ℕ} (n : ℕ) {k : ℕ} → k ≡ length ρs → s' ≡ put_header s n k → Written old s' at (record { names = n; rules = ρs })
  unfolding encode
  writing_end n {k} count e =
      record {
        bytes =
            e ∙ put_header-room s n k (omega (arith, writing_length, w.place, w.fits))
            ∙ rw (w.bytes, count, w.place)
            (stores_in_front old (rules_bytes ρs) (header n (length ρs)) (length-header n (length ρs)) (omega (arith, w.place, w.fits)));
        ends = w.place ∙ sym (length-encode (record { names = n; rules = ρs }));
      }

module _ {old s : List ℕ} {size : ℕ} {b : Book} (w : Written old s size b) where
  pub written-length : size ≤ length old → length s ≡ length old
  written-length h = rw (w.bytes, length-append, length-drop) (omega (arith, w.ends))

  -- the book's own bytes decode to it
  pub written-decode : Encodable b → decode (take size s) ≡ ok b
  written-decode f = decode-front f (drop size old) w.bytes w.ends

-- a book that stands at the front is one in the making: a rule more, and the eight bytes in front anew, append to it
pub writing_again : {b : Book} → Encodable b → {s : List ℕ} (rest : List ℕ) → s ≡ encode b ++ rest → Writing s s (length (encode b)) b.rules
unfolding encode
writing_again {b} f {s} rest e =
    let h : List ℕ = header b.names (length b.rules) in
    let w : List ℕ = rules_bytes b.rules in
    let split : s ≡ h ++ (w ++ rest) = e ∙ append_assoc h w rest in
    let size : length s ≡ 8 + length w + length rest = rw (e, length-append, length-append, length-header) refl in
    let before : take 8 s ≡ h = rw split (take_at h (w ++ rest) 8 (length-header _ _)) in
    let after : drop (8 + length w) s ≡ rest = rw e (drop_at (h ++ w) rest (8 + length w) (length-encode b)) in
    record {
      bytes = sym (sets-eq w s 8 (omega arith) ∙ rw (before, after) (sym e));
      place = length-encode b;
      most = omega (arith, length-encode b, rules_bytes-most b.rules f.rules);
      fits = omega (arith, length-encode b);
    }
