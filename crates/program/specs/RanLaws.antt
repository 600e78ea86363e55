-- How reading, answering and writing block after block gives what the program says of its run.
use Rattle.std.specs.Prelude.{Bool, true, false, List, [], ◌∷◌, ◌++◌, ◌⊎◌, ◌≡◌, refl, ℕ, zero, suc, ◌+◌, ◌-◌, ◌<◌, ◌≤◌, leb, length, get_or, take, drop, Some, None}
use Rattle.std.proofs.lemmas.Option.{none-some}
use Rattle.std.proofs.Common.{true≢false, append_assoc, append-nil, inl, inr, sym, ap, ◌∙◌, arith, leb-true, leb-false, take-append-drop, length-append, length-drop, take-take, length-take-le}
use borrow.Rule.Slice.PartMut.{put_mid, mid_of, take_put, same_len_mid}
use Rattle.roles.specs.Role.{Chain}
use Rattle.roles.specs.Rule.{Book}
use Rattle.base.specs.Result.{Result}
use Rattle.base.specs.Result.Result.{refused, ok}
use Rattle.book_causes.specs.Accepted.{built}
use Rattle.book_causes.specs.AcceptedLaws.{building}
use Rattle.query_causes.specs.Input.{Broken, is_whole}
use Rattle.query_correctness.specs.TrailQuery.{AnsweredByTrails}
use Rattle.query_correctness.specs.BindingReply.{DecidedByBinding}
use Rattle.transcript_lines.specs.Block.{Block, Blocks, joined}
use Rattle.transcript_lines.specs.Block.Blocks.{none, more}
use Rattle.transcript_lines.specs.BlockLaws.{block-counts, block_goes}
use Rattle.transcript_writer.specs.declared.block.Progress.{Progress}
use Rattle.line_writer.specs.PutsLaws.{puts-front}
use Rattle.transcript_writer.specs.Advances.{AnswersBlock}
use Rattle.transcript_writer.specs.declared.opening.Tables.{Tables}
use Rattle.transcript_writer.specs.declared.opening.Opening.{Opening}
use Rattle.transcript_writer.specs.Opened.{heads_in, moves_in, tables_of, Opens}
use Rattle.transcript_writer.specs.SessionLaws.{opened-blocks}
use Rattle.program.specs.declared.Stop.{Stop}
use Rattle.program.specs.declared.Stop.TheVariants.{Refused, Ended, Unwritten, Exhausted}
use Rattle.program.specs.Ran.{Serving, Served, Ran, Reads, Ends}
use Rattle.program.specs.Ran.Served.{ended, exhausted, unwritten}
use Rattle.program.specs.Ran.Ran.{refuses, opened}

-- what is kept is no whole question, and the longest question has 65,538 bytes
small-front : (n : ℕ) (q : List ℕ) → ((i : ℕ) → get_or q i 0 < 256) → (i : ℕ) → get_or (take n q) i 0 < 256
small-front zero q s i = omega arith
small-front (suc n) [] s i = omega arith
small-front (suc n) (x ∷ q) s zero = s 0
small-front (suc n) (x ∷ q) s (suc i) = small-front n q (λ j. s (suc j)) i

pub kept-short : (kept : ℕ) (q : List ℕ) → ((i : ℕ) → get_or q i 0 < 256) → kept ≤ length q → is_whole (take kept q) ≡ false → kept < 65538
kept-short kept q s h e =
    let b : Broken (take kept q) = leb-false _ _ e in
    omega (arith, b, length-take-le kept q h, small-front kept q s 1, small-front kept q s 2)

pub some-room : (a : ℕ) (q : List ℕ) → a < length q → 0 < length (take (length q - a) (drop a q))
some-room a q h = rw (length-take-le (length q - a) (drop a q) (omega (arith, length-drop a q))) (omega (arith, h))

-- the bytes that are read go behind those that are kept
pub reads_none : {left : Bool} {kept : ℕ} {q : List ℕ} → kept ≤ length q → Reads left kept q q kept
reads_none h = record { same = refl; front = refl; after = omega arith; within = h; still = λ e. refl }

pub reads-behind : {left : Bool} (kept : ℕ) (q part : List ℕ) (count : ℕ) → left ≡ false → kept ≤ length q
    → length part ≡ length (mid_of kept (length q - kept) q) → count ≤ length part → Reads left kept q (put_mid kept (length q - kept) q part) (kept + count)
reads-behind kept q part count empty h same l =
    let long : length (put_mid kept (length q - kept) q part) ≡ length q = same_len_mid kept (length q - kept) q part same in
    let size : length (mid_of kept (length q - kept) q) ≡ length q - kept =
    length-take-le (length q - kept) (drop kept q) (omega (arith, length-drop kept q)) in
    record {
      same = long;
      front = take_put kept (length q - kept) q part h;
      after = omega arith;
      within = rw long (omega (arith, same, size, l, h));
      still = λ e. absurd (true≢false (sym e ∙ empty));
    }

-- whether the input has ended, by each test
pub ends-left : {kept end : ℕ} {left : Bool} → left ≡ true → Ends kept end left false
ends-left e = record { over = λ h. absurd (true≢false (sym h)); more = λ h. inl e }

pub ends_read : (kept end : ℕ) {left : Bool} → left ≡ false → Ends kept end left (leb end kept)
ends_read kept end e = record { over = λ h. (e, leb-true end kept h); more = λ h. inr (leb-false end kept h) }

-- the bytes of one block more
joined-after : (blocks : List (List ℕ)) (block : List ℕ) → length (joined (blocks ++ (block ∷ []))) ≡ length (joined blocks) + length block
joined-after [] block = ap length (append-nil block) ∙ omega arith
joined-after (b ∷ blocks) block =
    omega (
      arith,
      length-append b (joined (blocks ++ (block ∷ []))),
      length-append b (joined blocks),
      joined-after blocks block,
    )

module _ {Says : ℕ → Chain → Result Bool → Type 0} where
  -- one block more
  blocks-after : {k k' k'' room : ℕ} {kept kept' kept'' lines lines' : List ℕ} {blocks : List (List ℕ)} → Blocks Says k kept blocks lines k' kept'
      → (block : List ℕ) → Block Says k' (kept' ++ block) room lines' k'' kept'' → Blocks Says k kept (blocks ++ (block ∷ [])) (lines ++ lines') k'' kept''
  blocks-after {k} {k'' = k''} {kept = kept} {kept'' = kept''} {lines' = lines'} none block b =
      let one : Blocks Says k kept (block ∷ []) (lines' ++ []) k'' kept'' = more {block = block} b none in
      rw (append-nil lines') at one
  blocks-after {lines' = lines'} (more {block = earlier} {lines = first} {lines' = rest} c cs) block b =
      rw (append_assoc first rest lines') (more {block = earlier} c (blocks-after cs block b))

  pub serving_none : Serving Says 0 [] false 18446744073709551615
  serving_none = record { blocks = []; lines = []; answered = none; whole = refl; counted = omega arith }

  -- each block has a byte, or a question is answered with it
  serving_next : {k k' room turns : ℕ} {kept lines rest : List ℕ} {left left' : Bool} → Serving Says k kept left turns → 0 < turns
      → (block : List ℕ) → Block Says k (kept ++ block) room lines k' rest → (0 < length block) ⊎ (k < k') → left' ≡ is_whole rest
      → Serving Says k' rest left' (turns - 1)
  serving_next {k} {k'} {turns = turns} {lines = lines} s some block b goes e =
      record {
        blocks = s.blocks ++ (block ∷ []);
        lines = s.lines ++ lines;
        answered = blocks-after s.answered block b;
        whole = e;
        counted = by-reason goes;
      }
    where
      by-reason : (0 < length block) ⊎ (k < k') → 18446744073709551615 ≤ length (joined (s.blocks ++ (block ∷ []))) + k' + (turns - 1)
      by-reason (inl h) = omega (arith, h, s.counted, some, joined-after s.blocks block, block-counts b)
      by-reason (inr h) = omega (arith, h, s.counted, some, joined-after s.blocks block)

  -- why the loop ends
  pub serving_ends : {k turns : ℕ} {kept : List ℕ} {left : Bool} {r : Stop} → Serving Says k kept left turns → left ≡ false
      → (r ≡ Ended) ⊎ (r ≡ Unwritten) → Served Says r
  serving_ends s l (inl e) = rw e (ended s.answered (leb-false _ _ (sym s.whole ∙ l)))
  serving_ends s l (inr e) = rw e unwritten

  pub serving_exhausted : {k turns : ℕ} {kept : List ℕ} {left : Bool} → Serving Says k kept left turns → (turns ≡ 0) ⊎ (18446744073709551615 ≤ k)
      → Served Says Exhausted
  serving_exhausted s (inl e) = exhausted s.answered (omega (arith, s.counted, e))
  serving_exhausted s (inr h) = exhausted s.answered (omega (arith, h))

-- a block that is read and answered
module _ {Says : ℕ → Chain → Result Bool → Type 0} {q q' q'' out out' : List ℕ} {k kept end turns : ℕ} {left : Bool} {p : Progress} where
  pub serving_block : Serving Says k (take kept q) left turns → 0 < turns → k < 18446744073709551615 → Reads left kept q q' end
      → (left ≡ true) ⊎ (kept < end) → AnswersBlock Says k q' end out q'' out' p → 64 ≤ length out
      → Serving Says p.number (take p.kept q'') p.left (turns - 1)
  serving_block s some few r goes a space =
      let block : List ℕ = drop kept (take end q') in
      let front : take end q' ≡ take kept q ++ block =
      sym (take-append-drop kept (take end q')) ∙ ap (λ (f : List ℕ). f ++ block) (take-take kept end q' r.after ∙ r.front) in
      let rest : take p.kept q'' ≡ a.rest = puts-front a.keeps in
      rw rest (serving_next s some block (rw front at a.block) (by-reason goes) a.left)
    where
      by-reason : (left ≡ true) ⊎ (kept < end) → (0 < length (drop kept (take end q'))) ⊎ (k < p.number)
      by-reason (inr h) = inl (omega (arith, length-drop kept (take end q'), length-take-le end q' r.within, h))
      by-reason (inl l) =
          let same : take end q' ≡ take kept q = ap (λ (n : ℕ). take n q') (r.still l) ∙ r.front in
          inr (block_goes a.block (rw same (leb-true _ _ (sym s.whole ∙ l))) space few)

-- what opening a book says of the run
module _ {s h m line line' : List ℕ} {o : Opening} (p : Opens s h m line line' o) where
  by-book : {t : Tables} → o.tables ≡ Some t → (b : Book) → built s 64 15360 ≡ ok b → {r : Stop}
      → Served (AnsweredByTrails (heads_in t) (moves_in t)) r → Served (DecidedByBinding b) r
  by-book f b e (ended bs l) = ended (opened-blocks p f b e bs) l
  by-book f b e (exhausted bs l) = exhausted (opened-blocks p f b e bs) l
  by-book f b e unwritten = unwritten

  pub ran_refused : o.tables ≡ None → Ran Refused
  ran_refused f = by_result (built s 64 15360) refl
    where
      by_result : (x : Result Book) → built s 64 15360 ≡ x → Ran Refused
      by_result (refused c v) e = refuses s c v e
      by_result (ok b) e = absurd (none-some _ (sym f ∙ p.tables ∙ ap (tables_of h m) e))

  pub ran_served : {t : Tables} → o.tables ≡ Some t → {r : Stop} → Served (AnsweredByTrails (heads_in t) (moves_in t)) r → Ran r
  ran_served f {r} u = by_result (built s 64 15360) refl
    where
      by_result : (x : Result Book) → built s 64 15360 ≡ x → Ran r
      by_result (refused c v) e = absurd (none-some _ (sym (p.tables ∙ ap (tables_of h m) e) ∙ f))
      by_result (ok b) e = opened s b b (building s 64 15360 b e) (by-book f b e u)
