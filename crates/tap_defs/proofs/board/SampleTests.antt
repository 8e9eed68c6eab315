-- The texts of the tests of small boards, with their passes.
use Rattle.std.proofs.Common.{◌≡◌, [], ◌∷◌, refl}
use Rattle.std.specs.Prelude.{codes}
use Rattle.std.specs.Fmt.{digits}
use Rattle.tap_defs.specs.chain.Text.{svf_text}
use Rattle.tap_defs.specs.board.BoardScans.{board_text, walk_text}
use Rattle.tap_defs.proofs.chain.SampleTexts.{sample_text, two_nets}
use Rattle.tap_defs.proofs.board.SampleBoards.{wires, wires_2001, wires_round, bus, buffers, pulled_up, three_wires}

-- the two nets have the codes 1 and 2
wires_text : board_text wires ≡ two_nets
unfolding svf_text digits
wires_text = refl

-- in the 2001 edition, the preload and EXTEST codes are those of the description
wires_2001_text : board_text wires_2001 ≡ sample_text (
    codes "SIR 4 TDI (2) TDO (5) MASK (F);" ∷ codes "SDR 4 TDI (0);" ∷ codes "SIR 4 TDI (4) TDO (5) MASK (F);"
    ∷ codes "SDR 4 TDI (4);" ∷ codes "SDR 4 TDI (8) TDO (1) MASK (3);" ∷ codes "SDR 4 TDI (0) TDO (2) MASK (3);" ∷ [])
unfolding svf_text digits
wires_2001_text = refl

-- a part without a description gets a code of ones, which means BYPASS
wires_round_text : board_text wires_round ≡ sample_text (
    codes "SIR 7 TDI (5E) TDO (25) MASK (6F);" ∷ codes "SDR 5 TDI (00);" ∷ codes "SIR 7 TDI (1C) TDO (25) MASK (6F);"
    ∷ codes "SDR 5 TDI (08);" ∷ codes "SDR 5 TDI (10) TDO (01) MASK (03);" ∷ codes "SDR 5 TDI (00) TDO (02) MASK (03);" ∷ [])
unfolding svf_text digits
wires_round_text = refl

-- a net with two drivers has a pass for each of them, with the quiet row between the passes
bus_text : board_text bus ≡ sample_text (
    codes "SIR 6 TDI (2A) TDO (15) MASK (3F);" ∷ codes "SDR 5 TDI (14);" ∷ codes "SIR 6 TDI (00) TDO (15) MASK (3F);"
    ∷ codes "SDR 5 TDI (0C);" ∷ codes "SDR 5 TDI (04) TDO (01) MASK (01);" ∷ codes "SDR 5 TDI (14) TDO (00) MASK (01);"
    ∷ codes "SDR 5 TDI (12);" ∷ codes "SDR 5 TDI (10) TDO (01) MASK (01);" ∷ codes "SDR 5 TDI (14) TDO (00) MASK (01);" ∷ [])
unfolding svf_text digits
bus_text = refl

-- the test leaves out guarded nets and nets without a driver
buffers_text : board_text buffers ≡ sample_text (
    codes "SIR 4 TDI (A) TDO (5) MASK (F);" ∷ codes "SDR 10 TDI (210);" ∷ codes "SIR 4 TDI (0) TDO (5) MASK (F);"
    ∷ codes "SDR 10 TDI (030);" ∷ codes "SDR 10 TDI (050) TDO (004) MASK (00C);" ∷ codes "SDR 10 TDI (210) TDO (008) MASK (00C);" ∷ [])
unfolding svf_text digits
buffers_text = refl

-- the cell of a driver that its own cell controls has the bit of the net, although it is a control cell
pulled_up_text : board_text pulled_up ≡ sample_text (
    codes "SIR 4 TDI (A) TDO (5) MASK (F);" ∷ codes "SDR 2 TDI (2);" ∷ codes "SIR 4 TDI (0) TDO (5) MASK (F);"
    ∷ codes "SDR 2 TDI (2);" ∷ codes "SDR 2 TDI (0) TDO (1) MASK (1);" ∷ codes "SDR 2 TDI (2) TDO (0) MASK (1);" ∷ [])
unfolding svf_text digits
pulled_up_text = refl

-- in the walking test of drivers that are always on, the nets carry 1 in turn
three_wires_walk : walk_text three_wires [] ≡ sample_text (
    codes "SIR 8 TDI (AA) TDO (55) MASK (FF);" ∷ codes "SDR 8 TDI (00);" ∷ codes "SIR 8 TDI (00) TDO (55) MASK (FF);"
    ∷ codes "SDR 8 TDI (40);" ∷ codes "SDR 8 TDI (80) TDO (04) MASK (0D);" ∷ codes "SDR 8 TDI (10) TDO (08) MASK (0D);"
    ∷ codes "SDR 8 TDI (00) TDO (01) MASK (0D);" ∷ [])
unfolding svf_text digits
three_wires_walk = refl
