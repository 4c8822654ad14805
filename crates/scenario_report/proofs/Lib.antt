mod Stated
